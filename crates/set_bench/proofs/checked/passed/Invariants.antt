use Rattle.std.proofs.Common.{◌≤◌}
use Rattle.set_bench.proofs.checked.passed.Given as goal

-- so far no more pass than were looked at
abbrev pub invariant-loop-source : goal.invariant-loop-source
invariant-loop-source l = l.count ≤ l.source-index
