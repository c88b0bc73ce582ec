-- What is published, batch by batch. Our own choice.
use Rattle.std.specs.Prelude.{ℕ, List, [], ◌∷◌}
use Rattle.std.specs.FinMap.{empty}
use Rattle.urpf_base.specs.declared.cells.Cell.{Cell}
use Rattle.urpf_base.specs.declared.kinds.Kind.{Kind}
use Rattle.prefix_map.specs.Mapped.{Mapped}
use Rattle.cover_table.specs.declared.batch.Batch.{Batch}
use Rattle.cover_table.specs.Tables.{taken_over}

-- a publication as sources are judged by it: its number, the interfaces with their kinds, and the cells of the prefixes
pub record Publication : Type 0 where
  pub number : ℕ
  pub kinds : List (ℕ × Kind)
  pub cells : Mapped Cell

-- before the first batch there is no cell
abbrev pub opening : List (ℕ × Kind) → Publication
opening kinds = record { number = 0; kinds = kinds; cells = empty }

-- a batch gives its number and its kinds, and the cells that it names
abbrev pub step : Publication → Batch → Publication
step publication batch = record {
  number = batch.number;
  kinds = batch.kinds;
  cells = taken_over batch.changes publication.cells;
}

-- the publication after these batches
abbrev pub after : Publication → List Batch → Publication
after publication [] = publication
after publication (batch ∷ batches) = after (step publication batch) batches

abbrev pub fold : List (ℕ × Kind) → List Batch → Publication
fold kinds batches = after (opening kinds) batches
