use Rattle.std.proofs.Common.{◌≡◌}
use Rattle.epoch_tests.proofs.tests.threads.PublisherPublishes.publish_all.Given as goal

-- the interfaces are those before the first publication
abbrev pub invariant-loop : goal.invariant-loop
invariant-loop g l = l.kinds ≡ l.self.opening
