-- Tables of cells: what writing one cell, and then several, does to them. Our own choice.
use Rattle.std.specs.Prelude.{ℕ, ◌==◌, Bool, ◌&&◌, not, List, [], ◌∷◌, if◌then◌else◌, refl}
use Rattle.std.specs.Coded.{Coded, code_by, coded×, coded_ℕ, coded_bool}
use Rattle.std.specs.FinMap.{insert, remove}
use Rattle.urpf_base.specs.declared.cells.Cell.{Cell}
use Rattle.urpf_base.specs.declared.cells.CellChange.{CellChange}
use Rattle.prefix_map.specs.Kept.{map_code}
use Rattle.prefix_map.specs.Mapped.{Mapped}

-- the cells of the prefixes that are in a set, and how many more can be taken in without memory
pub record TableState : Type 0 where
  pub cells : Mapped Cell
  pub spare : ℕ

-- whether the cell is that of a prefix that is in no set
abbrev pub is_empty_cell : Cell → Bool
is_empty_cell cell = (cell.f == 0) && (cell.a == 0) && not cell.z

-- the table with this cell at its prefix; no prefix is named for an empty cell
abbrev pub written : CellChange → Mapped Cell → Mapped Cell
written change cells =
    if is_empty_cell change.cell then remove cells change.prefix else insert cells change.prefix change.cell

-- the table with the cells of all changes, one after the other
abbrev pub taken_over : List CellChange → Mapped Cell → Mapped Cell
taken_over [] cells = cells
taken_over (change ∷ changes) cells = taken_over changes (written change cells)

-- how tables of cells are told apart
abbrev pub cell_code : Coded Cell
cell_code =
    code_by (ℕ × (ℕ × Bool)) (coded× coded_ℕ (coded× coded_ℕ coded_bool)) (λ c. (c.f, (c.a, c.z)))
    (λ t. record { f = t.0; a = t.1.0; z = t.1.1 }) (λ _. refl)

abbrev pub cells_code : Coded (Mapped Cell)
cells_code = map_code cell_code

abbrev pub table_code : Coded TableState
table_code =
    code_by (Mapped Cell × ℕ) (coded× cells_code coded_ℕ) (λ t. (t.cells, t.spare))
    (λ p. record { cells = p.0; spare = p.1 }) (λ _. refl)
