use Rattle.std.proofs.Common.{◌≡◌}
use Rattle.epoch_tests.proofs.tests.stories.seen_and_told.Given as goal

-- the interfaces are those before the first publication
abbrev pub invariant-loop-number : goal.invariant-loop-number
invariant-loop-number g l = l.kinds ≡ l.publisher.opening
