use Rattle.cover_table.proofs.Folding.{fold_cells, fold_filled, fold_kinds, fold_number}
use Rattle.cover_table.proofs.laws.fold_laws.Goals as goal

pub returns-clause-number : goal.returns-clause-number
returns-clause-number c = fold_number

pub returns-clause-kinds : goal.returns-clause-kinds
returns-clause-kinds c = fold_kinds

pub returns-clause-cells : goal.returns-clause-cells
returns-clause-cells c = fold_cells

pub returns-clause-filled : goal.returns-clause-filled
returns-clause-filled c = fold_filled
