use Rattle.std.proofs.Common.{ap, sym, ◌∙◌}
use Rattle.bgp_open.specs.Capabilities.{told_after}
use Rattle.bgp_open.specs.Openings.{told_in}
use Rattle.bgp_open.proofs.Telling.{told_in-more}
use Rattle.bgp_open.proofs.parameters.told_in.Goals as goal

pub loop-value-preserved : goal.loop-value-preserved
loop-value-preserved c =
    ap (λ t. told_after t (told_in c.in-Some.after.now)) c.tell-told.ensures
    ∙ told_in-more c.loop-value.told c.loop-value.rest.now _ _ (sym c.in-Some.ensures)
    ∙ c.loop-value.invariant
