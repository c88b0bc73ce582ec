use Rattle.std.proofs.Common.{◌↔◌}
use Rattle.rpf_plain.specs.Kept.{each_row}
use Rattle.rpf_plain.specs.Walks.{InSetA}
use Rattle.rpf_plain.proofs.one_cell.in_set_a.Given as goal

abbrev pub invariant-loop-row : goal.invariant-loop-row
invariant-loop-row l = InSetA l.row-iterator l.customers l.origin ↔ InSetA (each_row l.rows) l.customers l.origin
