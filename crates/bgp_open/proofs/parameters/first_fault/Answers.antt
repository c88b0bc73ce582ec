use Rattle.std.proofs.Common.{sym, ◌∙◌}
use Rattle.bgp_open.proofs.Telling.{first_fault-passed}
use Rattle.bgp_open.proofs.parameters.first_fault.Goals as goal

pub loop-code-preserved : goal.loop-code-preserved
loop-code-preserved c =
    first_fault-passed c.loop-code.rest.now _ _ (sym c.in-Some.ensures) (sym c.in_default-parameter_fault.ensures)
    ∙ c.loop-code.invariant
