use Rattle.std.proofs.Common.{◌⊎◌, ◌↔◌, subst, sym, ◌∙◌}
use Rattle.urpf_base.specs.Masks.{InMask}
use Rattle.origin_pairs.specs.Pairs.{Pair}
use Rattle.rpf_plain.specs.Kept.{each_row}
use Rattle.rpf_plain.specs.Walks.{IsPairListed, SomePair}
use Rattle.rpf_plain.proofs.Paired.{no_pair}
use Rattle.rpf_plain.proofs.Turns.{begun, done, moved, no_member}
use Rattle.rpf_plain.proofs.by_pairs.listing_by_pairs.Goals as goal

pub loop-pair-init : goal.loop-pair-init
loop-pair-init c i =
    let all = c.args.pairs.now in
    let Is : Pair → Type 0 = IsPairListed (each_row c.args.rows.now) c.args.customers i c.args.prefix.now in
    let start = c.into_iter-pair-iterator.ensures.into_iter_gives ∙ c.pairs-pair-items.ensures.list in
    subst (λ pairs. (InMask c.empty-ifaces.result i ⊎ SomePair Is pairs) ↔ SomePair Is all) (sym start)
    (begun (λ h. no_member i (subst (λ m. InMask m i) c.empty-ifaces.ensures h)))

pub loop-pair-preserved : goal.loop-pair-preserved
loop-pair-preserved c i =
    let all = c.args.pairs.now in
    let Is : Pair → Type 0 = IsPairListed (each_row c.args.rows.now) c.args.customers i c.args.prefix.now in
    moved
    (subst (λ pairs. (InMask c.loop-pair.ifaces i ⊎ SomePair Is pairs) ↔ SomePair Is all) c.in-Some.ensures.steps
    (c.loop-pair.invariant i))
    (c.with_pair_listed-ifaces.ensures i)

pub returns : goal.returns
returns c i =
    let Is : Pair → Type 0 = IsPairListed (each_row c.args.rows.now) c.args.customers i c.args.prefix.now in
    done (c.loop-pair.invariant i) (no_pair Is c.loop-pair.pair-iterator c.in-None.ensures.steps.0)
