use Rattle.std.proofs.Common.{◌≡◌}
use Rattle.worker_tests.proofs.tests.publishers.refused.Given as goal

-- the interfaces are those before the first publication
abbrev pub invariant-loop : goal.invariant-loop
invariant-loop g l = l.kinds ≡ l.publisher.opening
