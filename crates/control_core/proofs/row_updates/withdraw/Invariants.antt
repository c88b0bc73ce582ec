use Rattle.control_core.specs.EngineRows.{RowsFollow}
use Rattle.control_core.proofs.Withdrawals.{IsWithdrawing}
use Rattle.control_core.proofs.row_updates.withdraw.Given as goal

abbrev pub invariant-loop-prefix : goal.invariant-loop-prefix
invariant-loop-prefix g l = record {
  walk : IsWithdrawing l.update.announced l.update.withdrawn l.prefix-iterator l.initial.rib l.rib;
  rows : RowsFollow l.iface l.initial.rib l.rib l.initial.sets l.sets;
}
