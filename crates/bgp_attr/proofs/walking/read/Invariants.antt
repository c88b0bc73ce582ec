use Rattle.std.proofs.Common.{length}
use Rattle.bgp_attr.proofs.WalkLaws.{IsWalked}
use Rattle.bgp_attr.proofs.walking.read.Given as goal

abbrev pub invariant-loop-rest : goal.invariant-loop-rest
invariant-loop-rest l = IsWalked l.width l.v6 l.field l.rest l.seen l.slots

abbrev pub decreases-loop-rest : goal.decreases-loop-rest
decreases-loop-rest l = length l.rest
