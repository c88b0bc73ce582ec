use Rattle.std.proofs.Common.{◌≡◌, length}
use Rattle.bgp_open.specs.Fields.{fields_in}
use Rattle.bgp_open.specs.Openings.{first_parameter_fault}
use Rattle.bgp_open.proofs.parameters.first_fault.Given as goal

abbrev pub invariant-loop-code : goal.invariant-loop-code
invariant-loop-code l = first_parameter_fault (fields_in l.rest) ≡ first_parameter_fault (fields_in l.fn.parameters)

abbrev pub decreases-loop-code : goal.decreases-loop-code
decreases-loop-code l = length l.rest
