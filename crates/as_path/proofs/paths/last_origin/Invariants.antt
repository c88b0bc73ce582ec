use Rattle.std.proofs.Common.{◌≡◌, length, None}
use Rattle.as_path.specs.Front.{segments_in}
use Rattle.as_path.proofs.HopLaws.{ending}
use Rattle.as_path.proofs.paths.last_origin.Given as goal

abbrev pub invariant-loop-segment : goal.invariant-loop-segment
invariant-loop-segment l = ending l.origin (segments_in l.width l.rest) ≡ ending None (segments_in l.width l.value)

abbrev pub decreases-loop-segment : goal.decreases-loop-segment
decreases-loop-segment l = length l.rest
