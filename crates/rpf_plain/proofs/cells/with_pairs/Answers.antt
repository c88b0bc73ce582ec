use Rattle.std.proofs.Common.{◌≡◌, ◌⊎◌, ◌↔◌, IsTrue, refl, subst, sym, ◌∙◌}
use Rattle.urpf_base.specs.Masks.{InMask}
use Rattle.origin_pairs.specs.Pairs.{Pair}
use Rattle.rpf_plain.specs.declared.origins.Reach.{Reach}
use Rattle.rpf_plain.specs.Cells.{cell_at}
use Rattle.rpf_plain.specs.Walks.{GivesPrefix, GivesToSetZ, SomePair}
use Rattle.rpf_plain.proofs.Paired.{no_pair}
use Rattle.rpf_plain.proofs.Turns.{done, moved}
use Rattle.rpf_plain.proofs.cells.with_pairs.Goals as goal

pub loop-pair-init : goal.loop-pair-init
loop-pair-init c =
    let cells = c.args.decided in
    let all = c.args.pairs.now in
    let origins = c.args.origins.now.reaches in
    let start = c.into_iter-pair-iterator.ensures.into_iter_gives ∙ c.pairs-pair-items.ensures.list in
    record {
      f = λ p. refl;
      a = λ p i.
          let Is : Pair → Type 0 = GivesPrefix origins c.args.customers i p in
          let A : Type 0 = InMask (cell_at cells p).a i in
          subst (λ pairs. (A ⊎ SomePair Is pairs) ↔ (A ⊎ SomePair Is all)) (sym start) (λ h. h, λ h. h);
      z = λ p.
          let Is : Pair → Type 0 = GivesToSetZ origins p in
          let A : Type 0 = IsTrue (cell_at cells p).z in
          subst (λ pairs. (A ⊎ SomePair Is pairs) ↔ (A ⊎ SomePair Is all)) (sym start) (λ h. h, λ h. h);
      filled = λ h. h;
    }

pub loop-pair-preserved : goal.loop-pair-preserved
loop-pair-preserved c =
    let pair = c.in-Some.pair in
    let old = c.loop-pair.cells in
    let told = c.in_ok-give.ensures in
    let first = c.args.decided in
    let all = c.args.pairs.now in
    let origins = c.args.origins.now.reaches in
    let customers = c.args.customers in
    record {
      f = λ p. told.f p ∙ c.loop-pair.invariant.f p;
      a = λ p i.
          let Is : Pair → Type 0 = GivesPrefix origins customers i p in
          moved
          (subst
          (λ pairs. (InMask (cell_at old p).a i ⊎ SomePair Is pairs) ↔ (InMask (cell_at first p).a i ⊎ SomePair Is all))
          c.in-Some.ensures.steps (c.loop-pair.invariant.a p i))
          (subst
          (λ (reach : Reach). InMask (cell_at c.give.new.cells p).a i
          ↔ (InMask (cell_at old p).a i ⊎ ((pair.0 ≡ p) × (InMask customers i × InMask reach.own i))))
          c.reach.ensures (told.a p i));
      z = λ p.
          let Is : Pair → Type 0 = GivesToSetZ origins p in
          moved
          (subst
          (λ pairs. (IsTrue (cell_at old p).z ⊎ SomePair Is pairs) ↔ (IsTrue (cell_at first p).z ⊎ SomePair Is all))
          c.in-Some.ensures.steps (c.loop-pair.invariant.z p))
          (subst
          (λ (reach : Reach). IsTrue (cell_at c.give.new.cells p).z
          ↔ (IsTrue (cell_at old p).z ⊎ ((pair.0 ≡ p) × IsTrue reach.in_set_a))) c.reach.ensures (told.z p));
      filled = λ h. told.filled (c.loop-pair.invariant.filled h);
    }

pub returns : goal.returns
returns c =
    let origins = c.args.origins.now.reaches in
    let customers = c.args.customers in
    record {
      f = c.loop-pair.invariant.f;
      a = λ p i. done (c.loop-pair.invariant.a p i)
          (no_pair (GivesPrefix origins customers i p) c.loop-pair.pair-iterator c.in-None.ensures.steps.0);
      z = λ p. done (c.loop-pair.invariant.z p)
          (no_pair (GivesToSetZ origins p) c.loop-pair.pair-iterator c.in-None.ensures.steps.0);
      filled = c.loop-pair.invariant.filled;
    }
