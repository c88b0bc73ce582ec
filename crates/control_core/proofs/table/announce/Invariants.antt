use Rattle.std.proofs.Common.{Some}
use Rattle.control_core.proofs.Walks.{IsUnderWay}
use Rattle.control_core.proofs.table.announce.Given as goal

abbrev pub invariant-loop-prefix : goal.invariant-loop-prefix
invariant-loop-prefix l = IsUnderWay l.fn.prefixes l.prefix-iterator (Some l.origin) l.initial.rib l.rib
