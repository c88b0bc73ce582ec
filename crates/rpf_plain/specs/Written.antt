-- A table of cells that is written prefix by prefix. Our own choice.
use Rattle.std.specs.Prelude.{◌≡◌, ◌⊎◌, Option, Some, None}
use Rattle.std.specs.Coded.{Coded, code_by, coded×, coded_option}
use Rattle.std.specs.FinMap.{insert}
use Rattle.std.proofs.Common.{refl}
use Rattle.urpf_base.specs.Address.{Block}
use Rattle.urpf_base.specs.declared.cells.Cell.{Cell}
use Rattle.prefix_map.specs.Kept.{block_code, map_code}
use Rattle.prefix_map.specs.Mapped.{Mapped}
use Rattle.rpf_plain.specs.Cells.{cell_at, empty_cell}
use Rattle.rpf_plain.specs.Kept.{cell_code}

-- the table, and the prefix whose cell is at hand
pub record Written : Type 0 where
  pub cells : Mapped Cell
  pub at : Option Block

-- how such tables are told apart
abbrev pub written_code : Coded Written
written_code =
    code_by (Mapped Cell × Option Block) (coded× (map_code cell_code) (coded_option block_code))
    (λ w. (w.cells, w.at)) (λ p. record { cells = p.0; at = p.1 }) (λ _. refl)

abbrev pub at_hand : Option (Block × Cell) → Option Block
at_hand None = None
at_hand (Some e) = Some e.0

-- the table with the cell at hand in it
abbrev pub with_hand : Option (Block × Cell) → Mapped Cell → Mapped Cell
with_hand None cells = cells
with_hand (Some e) cells = insert cells e.0 e.1

-- the cell of the prefix is at hand, or is empty
abbrev pub IsFresh : Written → Block → Type 0
IsFresh w p = (w.at ≡ Some p) ⊎ (cell_at w.cells p ≡ empty_cell)
