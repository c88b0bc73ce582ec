use Rattle.std.proofs.Common.{◌≡◌}
use Rattle.set_bench.proofs.published.publish_singles.Given as goal

-- the interfaces are those before the first publication
abbrev pub invariant-loop-k : goal.invariant-loop-k
invariant-loop-k g l = l.kinds ≡ l.publisher.opening
