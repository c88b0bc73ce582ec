use Rattle.std.proofs.Common.{◌↔◌, sym, subst, ◌∙◌, refl}
use Rattle.origin_pairs.specs.Pairs.{Pair}
use Rattle.rpf_plain.specs.Kept.{each_row}
use Rattle.rpf_plain.specs.Walks.{IsPairForSetZ, SomePair}
use Rattle.rpf_plain.proofs.Paired.{no_pair}
use Rattle.rpf_plain.proofs.Turns.{never, one_is, passed}
use Rattle.rpf_plain.proofs.by_pairs.in_set_z_by_pairs.Goals as goal

pub loop-pair-init : goal.loop-pair-init
loop-pair-init c =
    let all = c.args.pairs.now in
    let Is : Pair → Type 0 = IsPairForSetZ (each_row c.args.rows.now) c.args.customers c.args.prefix.now in
    let start = c.into_iter-pair-iterator.ensures.into_iter_gives ∙ c.pairs-pair-items.ensures.list in
    subst (λ pairs. SomePair Is pairs ↔ SomePair Is all) (sym start) (λ h. h, λ h. h)

pub loop-pair-preserved : goal.loop-pair-preserved
loop-pair-preserved c =
    let all = c.args.pairs.now in
    let Is : Pair → Type 0 = IsPairForSetZ (each_row c.args.rows.now) c.args.customers c.args.prefix.now in
    passed (subst (λ pairs. SomePair Is pairs ↔ SomePair Is all) c.in-Some.ensures.steps c.loop-pair.invariant)
    (λ h. let no = c.if-is_pair_for_set_z.ensures.1 h in absurd cc)

pub returns-then-is_pair_for_set_z : goal.returns-then-is_pair_for_set_z
returns-then-is_pair_for_set_z c =
    let all = c.args.pairs.now in
    let Is : Pair → Type 0 = IsPairForSetZ (each_row c.args.rows.now) c.args.customers c.args.prefix.now in
    one_is (subst (λ pairs. SomePair Is pairs ↔ SomePair Is all) c.in-Some.ensures.steps c.loop-pair.invariant)
    (c.if-is_pair_for_set_z.ensures.0 refl)

pub returns : goal.returns
returns c =
    let Is : Pair → Type 0 = IsPairForSetZ (each_row c.args.rows.now) c.args.customers c.args.prefix.now in
    never c.loop-pair.invariant (no_pair Is c.loop-pair.pair-iterator c.in-None.ensures.steps.0)
