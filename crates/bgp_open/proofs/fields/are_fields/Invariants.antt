use Rattle.std.proofs.Common.{◌≡◌, length}
use Rattle.bgp_open.specs.Fields.{are_fields}
use Rattle.bgp_open.proofs.fields.are_fields.Given as goal

abbrev pub invariant-loop-after : goal.invariant-loop-after
invariant-loop-after l = are_fields l.rest ≡ are_fields l.fn.text

abbrev pub decreases-loop-after : goal.decreases-loop-after
decreases-loop-after l = length l.rest
