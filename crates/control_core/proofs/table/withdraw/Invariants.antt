use Rattle.std.proofs.Common.{None}
use Rattle.control_core.proofs.Walks.{IsUnderWay}
use Rattle.control_core.proofs.table.withdraw.Given as goal

abbrev pub invariant-loop-prefix : goal.invariant-loop-prefix
invariant-loop-prefix l = IsUnderWay l.fn.prefixes l.prefix-iterator None l.initial.rib l.rib
