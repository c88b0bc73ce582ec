use Rattle.std.proofs.Common.{sym, ◌∙◌}
use Rattle.bgp_open.proofs.Telling.{are_capabilities-more}
use Rattle.bgp_open.proofs.capabilities.are_capabilities.Goals as goal

pub loop-code-preserved : goal.loop-code-preserved
loop-code-preserved c =
    sym (are_capabilities-more c.loop-code.rest.now _ _ (sym c.in-Some.ensures)
    (sym c.has_length.ensures ∙ c.if-not-has_length.false))
    ∙ c.loop-code.invariant
