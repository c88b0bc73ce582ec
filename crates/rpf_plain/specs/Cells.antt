-- What the sets say of one prefix, and tables of such cells. Our own choice over the sets.
use Rattle.std.specs.Prelude.{◌≡◌, ◌↔◌, ℕ, false, IsTrue, List, Option, Some, None}
use Rattle.std.specs.FinMap.{get}
use Rattle.urpf_base.specs.Address.{Block}
use Rattle.urpf_base.specs.Cells.{AreAscending}
use Rattle.urpf_base.specs.Lists.{Has}
use Rattle.urpf_base.specs.Masks.{InMask}
use Rattle.urpf_base.specs.declared.cells.Cell.{Cell}
use Rattle.urpf_base.specs.declared.cells.CellChange.{CellChange}
use Rattle.prefix_map.specs.Mapped.{Mapped}
use Rattle.rpf_plain.specs.World.{World, is_customer}
use Rattle.rpf_plain.specs.Sets.{feasible, list_a_with_pairs, set_z_with_pairs}

-- the cell tells of each interface whether the prefix is in its sets, and whether it is in Set Z
pub record IsCell (w : World) (prefix : Block) (cell : Cell) : Type 0 where
  pub f : (i : ℕ) → InMask cell.f i ↔ Has (feasible w i) prefix
  pub a : (i : ℕ) → InMask cell.a i ↔ (IsTrue (is_customer w.roles i) × Has (list_a_with_pairs w i) prefix)
  pub z : IsTrue cell.z ↔ Has (set_z_with_pairs w) prefix

-- the cell of a prefix that is in no set
abbrev pub empty_cell : Cell
empty_cell = record { f = 0; a = 0; z = false }

abbrev pub cell_or_empty : Option Cell → Cell
cell_or_empty None = empty_cell
cell_or_empty (Some cell) = cell

-- the cell that a table has for a prefix; it is empty where the table does not name the prefix
abbrev pub cell_at : Mapped Cell → Block → Cell
cell_at table prefix = cell_or_empty (get table prefix)

-- the table has the cells of the world, and names no prefix whose cell is empty
pub record IsTable (w : World) (table : Mapped Cell) : Type 0 where
  pub cells : (p : Block) → IsCell w p (cell_at table p)
  pub filled : (p : Block) → ¬ (get table p ≡ Some empty_cell)

-- the list has each prefix whose cell in the world is another than in the table, once and ascending, with its cell in
-- the world
pub record AreChanges (w : World) (table : Mapped Cell) (changes : List CellChange) : Type 0 where
  pub ascending : AreAscending changes
  pub each : (p : Block) (c : Cell)
      → Has changes (record { prefix = p; cell = c }) ↔ (IsCell w p c × ¬ (c ≡ cell_at table p))

-- the list has each prefix whose cell is another in the new table, once and ascending, with its new cell
pub record AreDifferences (old new : Mapped Cell) (changes : List CellChange) : Type 0 where
  pub ascending : AreAscending changes
  pub each : (p : Block) (c : Cell)
      → Has changes (record { prefix = p; cell = c }) ↔ ((c ≡ cell_at new p) × ¬ (c ≡ cell_at old p))

-- the list has each prefix whose cell differs between the two worlds, once and ascending, with its cell in the new one
pub record IsDifference (old new : World) (changes : List CellChange) : Type 0 where
  pub ascending : AreAscending changes
  pub each : (p : Block) (c : Cell)
      → Has changes (record { prefix = p; cell = c }) ↔ (IsCell new p c × ¬ IsCell old p c)
