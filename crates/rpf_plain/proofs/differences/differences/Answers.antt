use Rattle.std.proofs.Common.{◌≡◌, ◌⊎◌, ◌↔◌, inl, inr, map, refl, subst, sym, ◌∙◌}
use Rattle.std.specs.FinMap.{entries}
use Rattle.urpf_base.specs.Cells.{AllBefore, AreAscending}
use Rattle.urpf_base.specs.Lists.{Has}
use Rattle.urpf_base.specs.declared.cells.Cell.{Cell}
use Rattle.prefix_map.specs.Beside.{beside}
use Rattle.prefix_map.specs.Order.{IsAscending}
use Rattle.prefix_map.proofs.Sides.{beside_ascends}
use Rattle.rpf_plain.specs.Cells.{cell_or_empty}
use Rattle.rpf_plain.proofs.Changed.{HasChange, Pairs, change, in_tables, no_change, noted}
use Rattle.rpf_plain.proofs.Turns.{begun, both, done, moved}
use Rattle.rpf_plain.proofs.differences.differences.Goals as goal

pub loop-prefix-init : goal.loop-prefix-init
loop-prefix-init c =
    let all = beside (entries c.args.old.now) (entries c.args.new.now) in
    let none = c.new-changes.ensures in
    let start : c.into_iter-prefix-iterator.result ≡ all =
    c.into_iter-prefix-iterator.ensures.into_iter_gives ∙ c.over-prefix-items.ensures in
    record {
      ascending = subst AreAscending (sym none) tt;
      behind = λ q _. subst (λ l. AllBefore l q) (sym none) tt;
      left = subst (λ (es : Pairs). IsAscending (map (λ e. e.0) es)) (sym start)
          (beside_ascends c.args.old.now c.args.new.now);
      each = λ p x. subst
          (λ (es : Pairs). (Has c.new-changes.result (change p x) ⊎ HasChange es p x) ↔ HasChange all p x) (sym start)
          (begun (λ h. subst (λ l. Has l (change p x)) none h));
    }

pub note-requires : goal.note-requires
note-requires c =
    c.loop-prefix.invariant.behind c.in-Some.prefix
    (subst (λ (es : Pairs). Has (map (λ e. e.0) es) c.in-Some.prefix) (sym c.in-Some.ensures.steps) (inl refl))

pub loop-prefix-preserved : goal.loop-prefix-preserved
loop-prefix-preserved c =
    let all = beside (entries c.args.old.now) (entries c.args.new.now) in
    let prefix = c.in-Some.prefix in
    let told = c.in_ok-note.ensures in
    let steps = c.in-Some.ensures.steps in
    let left = subst (λ (es : Pairs). IsAscending (map (λ e. e.0) es)) steps c.loop-prefix.invariant.left in
    let first : AllBefore c.loop-prefix.changes prefix =
    c.loop-prefix.invariant.behind prefix
    (subst (λ (es : Pairs). Has (map (λ e. e.0) es) prefix) (sym steps) (inl refl)) in
    let are = noted c.loop-prefix.changes c.note.new.changes prefix c.or_empty.result
    c.or_empty-in-loop-prefix.result first
    told.same told.another in
    record {
      ascending = are.ascending c.loop-prefix.invariant.ascending;
      behind = λ q later. are.behind q
          (c.loop-prefix.invariant.behind q
          (subst (λ (es : Pairs). Has (map (λ e. e.0) es) q) (sym steps) (inr later))) (left.0 q later);
      left = left.1;
      each = λ p x. moved
          (subst (λ (es : Pairs). (Has c.loop-prefix.changes (change p x) ⊎ HasChange es p x) ↔ HasChange all p x) steps
          (c.loop-prefix.invariant.each p x))
          (subst
          (λ (old : Cell). Has c.note.new.changes (change p x)
          ↔ (Has c.loop-prefix.changes (change p x) ⊎ ((prefix ≡ p) × (cell_or_empty c.in-Some.new ≡ x) × ¬ (old ≡ x))))
          c.or_empty.ensures
          (subst
          (λ (new : Cell). Has c.note.new.changes (change p x)
          ↔ (Has c.loop-prefix.changes (change p x) ⊎ ((prefix ≡ p) × (new ≡ x) × ¬ (c.or_empty.result ≡ x))))
          c.or_empty-in-loop-prefix.ensures (are.each p x)));
    }

pub returns : goal.returns
returns c = record {
  ascending = c.loop-prefix.invariant.ascending;
  each = λ p x. both
      (done (c.loop-prefix.invariant.each p x) (no_change c.loop-prefix.prefix-iterator p x c.in-None.ensures.steps.0))
      (in_tables c.args.old.now c.args.new.now p x);
}
