use Rattle.std.proofs.Common.{◌↔◌}
use Rattle.rpf_plain.specs.Kept.{each_row}
use Rattle.rpf_plain.specs.Walks.{InSetZ, IsForSetZ, SomeRow}
use Rattle.rpf_plain.proofs.one_cell.in_set_z.Given as goal

abbrev pub invariant-loop-row : goal.invariant-loop-row
invariant-loop-row l =
    let all = each_row l.rows in
    SomeRow (IsForSetZ all l.customers l.prefix) l.row-iterator ↔ InSetZ all l.customers l.prefix
