-- Batches made of worlds: what differs between the worlds of one mark and of the next. Our own choice.
use Rattle.std.specs.Prelude.{◌≡◌, ℕ, ◌+◌, List, [], ◌∷◌}
use Rattle.urpf_base.specs.Address.{Block}
use Rattle.urpf_base.specs.declared.kinds.Kind.{Kind}
use Rattle.origin_pairs.specs.Pairs.{Pair}
use Rattle.rpf_plain.specs.Cells.{IsCell, IsDifference, cell_at}
use Rattle.rpf_plain.specs.World.{World, world_for}
use Rattle.rpf_plain.specs.declared.rows.Row.{Row}
use Rattle.cover_table.specs.declared.batch.Batch.{Batch}
use Rattle.cover_table.specs.Snapshots.{Publication}

-- what the world of a mark is made of: its interfaces with their kinds, its rows and its pairs
pub record Mark : Type 0 where
  pub kinds : List (ℕ × Kind)
  pub rows : List Row
  pub pairs : List Pair

abbrev pub world_of : Mark → World
world_of mark = world_for mark.kinds mark.rows mark.pairs

-- mark 0: no row has come in
abbrev pub first_mark : List (ℕ × Kind) → List Pair → Mark
first_mark kinds pairs = record { kinds = kinds; rows = []; pairs = pairs }

-- the batch has the number and the kinds of its mark, and the difference from the world of the mark before
pub record IsBatchOf (number : ℕ) (before mark : Mark) (batch : Batch) : Type 0 where
  pub numbered : batch.number ≡ number
  pub kinds : batch.kinds ≡ mark.kinds
  pub changes : IsDifference (world_of before) (world_of mark) batch.changes

-- the publication has the kinds of the mark, and the cells of its world
pub record StandsFor (mark : Mark) (publication : Publication) : Type 0 where
  pub kinds : publication.kinds ≡ mark.kinds
  pub cells : (p : Block) → IsCell (world_of mark) p (cell_at publication.cells p)

-- there is one batch for each mark, and the numbers count on
abbrev pub AreBatchesOf : ℕ → Mark → List Mark → List Batch → Type 0
AreBatchesOf number before [] [] = Unit {0}
AreBatchesOf number before [] (batch ∷ batches) = ⊥
AreBatchesOf number before (mark ∷ marks) [] = ⊥
AreBatchesOf number before (mark ∷ marks) (batch ∷ batches) =
    IsBatchOf (number + 1) before mark batch × AreBatchesOf (number + 1) mark marks batches

-- the last of the marks
abbrev pub last_mark : Mark → List Mark → Mark
last_mark mark [] = mark
last_mark mark (next ∷ marks) = last_mark next marks
