use Rattle.std.proofs.Common.{sym, ◌∙◌}
use Rattle.bgp_open.proofs.Walks.{are_fields-some}
use Rattle.bgp_open.proofs.fields.are_fields.Goals as goal

pub loop-after-preserved : goal.loop-after-preserved
loop-after-preserved c =
    sym (are_fields-some c.loop-after.rest.now _ _ (sym c.in-Some.ensures)) ∙ c.loop-after.invariant
