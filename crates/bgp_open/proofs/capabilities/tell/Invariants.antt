use Rattle.std.proofs.Common.{◌≡◌, length}
use Rattle.bgp_open.specs.Capabilities.{told_after, told_by}
use Rattle.bgp_open.specs.Fields.{fields_in}
use Rattle.bgp_open.proofs.capabilities.tell.Given as goal

abbrev pub invariant-loop-code : goal.invariant-loop-code
invariant-loop-code l =
    told_after l.told (told_by (fields_in l.rest)) ≡ told_after l.fn.before (told_by (fields_in l.fn.value))

abbrev pub decreases-loop-code : goal.decreases-loop-code
decreases-loop-code l = length l.rest
