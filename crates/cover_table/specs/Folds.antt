-- What is left of many batches: the cell of the last one that names a prefix. Our own choice.
use Rattle.std.specs.Prelude.{ℕ, List, [], ◌∷◌, Option, Some, None, if◌then◌else◌}
use Rattle.std.specs.Ordering.{eq_by_cmp}
use Rattle.urpf_base.specs.Address.{Block}
use Rattle.urpf_base.specs.Cells.{AreAscending}
use Rattle.urpf_base.specs.Order.{prefix_order}
use Rattle.urpf_base.specs.declared.cells.Cell.{Cell}
use Rattle.urpf_base.specs.declared.cells.CellChange.{CellChange}
use Rattle.urpf_base.specs.declared.kinds.Kind.{Kind}
use Rattle.cover_table.specs.declared.batch.Batch.{Batch}

-- the cell that the first of the changes has that names the prefix
abbrev pub named : List CellChange → Block → Option Cell
named [] prefix = None
named (change ∷ changes) prefix =
    if eq_by_cmp prefix_order prefix change.prefix then Some change.cell else named changes prefix

-- the first of both that is there
abbrev pub first_there : Option Cell → Option Cell → Option Cell
first_there None other = other
first_there (Some cell) other = Some cell

-- the cell that the last batch gives the prefix that names it
abbrev pub last_named : List Batch → Block → Option Cell
last_named [] prefix = None
last_named (batch ∷ batches) prefix = first_there (last_named batches prefix) (named batch.changes prefix)

-- the number of the last batch, and 0 where there is none
abbrev pub last_number : ℕ → List Batch → ℕ
last_number number [] = number
last_number number (batch ∷ batches) = last_number batch.number batches

-- the kinds of the last batch, and those of the opening where there is none
abbrev pub last_kinds : List (ℕ × Kind) → List Batch → List (ℕ × Kind)
last_kinds kinds [] = kinds
last_kinds kinds (batch ∷ batches) = last_kinds batch.kinds batches

-- the changes of each batch ascend, so none names a prefix twice
abbrev pub AllAscend : List Batch → Type 0
AllAscend [] = Unit {0}
AllAscend (batch ∷ batches) = AreAscending batch.changes × AllAscend batches
