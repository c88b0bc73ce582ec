use Rattle.std.proofs.Common.{◌∙◌, ap, sym, arith, option_copied, ◌<◌, length}
use Rattle.as_path.specs.Hops.{hops, merged, origin}
use Rattle.as_path.proofs.HopLaws.{origin-merged}
use Rattle.as_path.proofs.merge.origin_of.Goals as goal

pub returns : goal.returns
returns c =
    let some : 0 < length (hops c.in-Some.four.now) = omega (arith, c.hops.ensures, c.if-hops-eq0.false) in
    c.origin-2.ensures
    ∙ sym (origin-merged c.args.path.now c.in-Some.four.now c.args.aggregators
    (sym c.is_aggregated_anew.ensures ∙ c.if-is_aggregated_anew.false) some
    (sym c.has_fewer_hops.ensures ∙ c.if-has_fewer_hops.false))
    ∙ ap (λ o. origin (merged c.args.path.now (option_copied o) c.args.aggregators)) (sym c.in-Some.is)
