use Rattle.std.proofs.Common.{◌≡◌, length}
use Rattle.bgp_open.specs.Capabilities.{are_capabilities}
use Rattle.bgp_open.proofs.capabilities.are_capabilities.Given as goal

abbrev pub invariant-loop-code : goal.invariant-loop-code
invariant-loop-code l = are_capabilities l.rest ≡ are_capabilities l.fn.value

abbrev pub decreases-loop-code : goal.decreases-loop-code
decreases-loop-code l = length l.rest
