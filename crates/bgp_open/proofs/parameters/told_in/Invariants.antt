use Rattle.std.proofs.Common.{◌≡◌, length}
use Rattle.bgp_open.specs.Capabilities.{told_after}
use Rattle.bgp_open.specs.Openings.{told_in}
use Rattle.bgp_open.proofs.parameters.told_in.Given as goal

abbrev pub invariant-loop-value : goal.invariant-loop-value
invariant-loop-value l = told_after l.told (told_in l.rest) ≡ told_in l.fn.parameters

abbrev pub decreases-loop-value : goal.decreases-loop-value
decreases-loop-value l = length l.rest
