use Rattle.std.proofs.Common.{ap, sym, ◌∙◌}
use Rattle.as_path.specs.Front.{segments_in}
use Rattle.urpf_base.proofs.Alike.{none_read}
use Rattle.as_path.proofs.HopLaws.{ending, ending-first, ending-none, ending_is_origin}
use Rattle.as_path.proofs.paths.last_origin.Goals as goal

pub loop-segment-preserved : goal.loop-segment-preserved
loop-segment-preserved c =
    ap (λ o. ending o (segments_in c.args.width c.in-Some.segment.rest.now)) c.origin_of_segment-origin.ensures
    ∙ sym (ending-first c.args.width c.loop-segment.rest.now c.in-Some.segment.rest.now _ c.loop-segment.origin
    (sym c.in-Some.ensures.segment))
    ∙ c.loop-segment.invariant

pub returns : goal.returns
returns c =
    sym (ending-none c.args.width c.loop-segment.rest.now c.loop-segment.origin
    (none_read _ _ _ c.first.ensures.segment c.in_default.is))
    ∙ c.loop-segment.invariant
    ∙ ending_is_origin c.args.width c.args.value.now (segments_in c.args.width c.args.value.now) c.requires
