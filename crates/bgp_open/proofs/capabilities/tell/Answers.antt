use Rattle.std.proofs.Common.{ap, sym, ◌∙◌}
use Rattle.bgp_open.specs.Capabilities.{told_after, told_by}
use Rattle.bgp_open.specs.Fields.{fields_in}
use Rattle.bgp_open.proofs.Telling.{tell-more}
use Rattle.bgp_open.proofs.capabilities.tell.Goals as goal

pub loop-code-preserved : goal.loop-code-preserved
loop-code-preserved c =
    ap (λ t. told_after t (told_by (fields_in c.in-Some.after.now))) c.tell_one-told.ensures
    ∙ tell-more c.loop-code.told c.loop-code.rest.now _ _ (sym c.in-Some.ensures)
    ∙ c.loop-code.invariant
