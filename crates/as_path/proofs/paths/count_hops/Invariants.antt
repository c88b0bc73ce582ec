use Rattle.std.proofs.Common.{◌≡◌, ◌+◌, length}
use Rattle.as_path.specs.Hops.{hops}
use Rattle.as_path.specs.Front.{segments_in}
use Rattle.as_path.proofs.paths.count_hops.Given as goal

abbrev pub invariant-loop-segment : goal.invariant-loop-segment
invariant-loop-segment l =
    l.count + length (hops (segments_in l.width l.rest)) ≡ length (hops (segments_in l.width l.value))

abbrev pub decreases-loop-segment : goal.decreases-loop-segment
decreases-loop-segment l = length l.rest
