-- The rows of a table, ascending by prefix, and what writing a cell does to them. Our own choice.
use Rattle.std.specs.Prelude.{◌≡◌, IsTrue, not, List, if◌then◌else◌}
use Rattle.std.specs.FinMap.{is_sorted}
use Rattle.std.specs.FinMap.Entries.{put}
use Rattle.std.specs.List.{AllByRecursion, filter}
use Rattle.std.specs.Ordering.{eq_by_cmp}
use Rattle.urpf_base.specs.Address.{Block}
use Rattle.urpf_base.specs.Order.{prefix_order}
use Rattle.urpf_base.specs.declared.cells.Cell.{Cell}
use Rattle.urpf_base.specs.declared.cells.CellChange.{CellChange}
use Rattle.rpf_plain.specs.Cells.{empty_cell}
use Rattle.cover_table.specs.Tables.{is_empty_cell}

-- a prefix and its cell
abbrev pub TableRow : Type 0
TableRow = Block × Cell

-- the prefixes ascend, and no cell is empty
pub record AreRows (rows : List TableRow) : Type 0 where
  pub ascending : IsTrue (is_sorted prefix_order rows)
  pub filled : AllByRecursion (λ row. ¬ (row.1 ≡ empty_cell)) rows

-- the rows with this cell at its prefix; an empty cell gets no row
abbrev pub rows_written : CellChange → List TableRow → List TableRow
rows_written change rows =
    if is_empty_cell change.cell
    then filter (λ row. not (eq_by_cmp prefix_order change.prefix row.0)) rows
    else put prefix_order change.prefix change.cell rows
