use Rattle.std.proofs.Common.{◌≡◌, ◌⊎◌, ◌↔◌, IsTrue, ◌∷◌, refl, ap, subst, sym, ◌∙◌, inl, inr}
use Rattle.std.specs.List.{AllByRecursion}
use Rattle.urpf_base.specs.Address.{Block}
use Rattle.urpf_base.specs.Masks.{InMask}
use Rattle.urpf_base.specs.Order.{IsBefore}
use Rattle.urpf_base.specs.declared.cells.Cell.{Cell}
use Rattle.prefix_map.proofs.Order.{same_or_not}
use Rattle.prefix_map.proofs.Outcomes.{if_ok}
use Rattle.rpf_plain.specs.declared.origins.Reach.{Reach}
use Rattle.rpf_plain.specs.declared.rows.Row.{Row}
use Rattle.rpf_plain.specs.Ahead.{InPrefixOrder, IsBehind, NotBefore}
use Rattle.rpf_plain.specs.Cells.{cell_at, empty_cell}
use Rattle.rpf_plain.specs.Kept.{each_row}
use Rattle.rpf_plain.specs.Walks.{Admits, AreCells, Hears, InListA, InSetZ, IsForSetZ, IsHeard, IsListed, SomeRow}
use Rattle.rpf_plain.proofs.Leading.{at_or_behind, behind_still, first_of, from_none, not_before_itself}
use Rattle.rpf_plain.proofs.Reached.{admits, admitted}
use Rattle.rpf_plain.proofs.Tables.{nothing, nothing_filled}
use Rattle.rpf_plain.proofs.Turns.{begun, done, either_by, known, moved, no_member, no_row, passed_over}
use Rattle.rpf_plain.proofs.cells.decided.Goals as goal

pub loop-row-init : goal.loop-row-init
loop-row-init c =
    let all = each_row c.args.rows.now in
    let cells = c.new-cells.result.cells in
    let none : (p : Block) → cell_at cells p ≡ empty_cell = λ p. nothing cells p c.new-cells.ensures.cells in
    let start = c.into_iter-row-iterator.ensures.into_iter_gives ∙ c.rows-row-items.ensures.list in
    record {
      over = c.over-ahead.ensures.over;
      order = subst InPrefixOrder (sym start) c.rows-row-items.ensures.order;
      none_before = subst (λ at. AllByRecursion (λ (row : Row). NotBefore at row.prefix) c.into_iter-row-iterator.result)
          (sym c.over-ahead.ensures.at) (from_none c.into_iter-row-iterator.result);
      beside = c.new-cells.ensures.at ∙ sym c.over-ahead.ensures.at;
      fresh = λ p _. none p;
      f = λ p i. subst (λ rows. (InMask (cell_at cells p).f i ⊎ Hears rows i p) ↔ Hears all i p) (sym start)
          (begun (λ h. no_member i (subst (λ (x : Cell). InMask x.f i) (none p) h)));
      a = λ p i. subst
          (λ rows. (InMask (cell_at cells p).a i ⊎ SomeRow (IsListed all c.args.customers i p) rows)
          ↔ InListA all c.args.customers i p) (sym start)
          (begun (λ h. no_member i (subst (λ (x : Cell). InMask x.a i) (none p) h)));
      z = λ p. subst
          (λ rows. (IsTrue (cell_at cells p).z ⊎ SomeRow (IsForSetZ all c.args.customers p) rows)
          ↔ InSetZ all c.args.customers p) (sym start)
          (begun (λ h. let no = ap (λ (x : Cell). x.z) (none p) in cc));
      filled = nothing_filled cells c.new-cells.ensures.cells;
    }

pub ifaces-ifaces-requires : goal.ifaces-ifaces-requires
ifaces-ifaces-requires c =
    first_of c.loop-row.ahead.at c.loop-row.row-iterator c.in-Some.row c.next.new.self c.in-Some.ensures.steps
    c.loop-row.invariant.none_before

pub admit-requires : goal.admit-requires
admit-requires c =
    let all = each_row c.args.rows.now in
    let row = c.in-Some.row in
    let kept = c.loop-row.invariant in
    let not_before =
    first_of c.loop-row.ahead.at c.loop-row.row-iterator row c.next.new.self c.in-Some.ensures.steps kept.none_before in
    let has : Hears all row.iface row.prefix =
    (kept.f row.prefix row.iface).0
    (inr (subst (λ rows. Hears rows row.iface row.prefix) (sym c.in-Some.ensures.steps) (inl (refl, refl)))) in
    record {
      fresh = elim (at_or_behind c.loop-row.ahead.at row.prefix not_before) [
        | inl same ↦ inl (kept.beside ∙ same)
        | inr behind ↦ inr (kept.fresh row.prefix behind)
      ];
      heard = (c.ifaces-ifaces.ensures.heard all kept.over row.iface).1 has;
    }

pub loop-row-preserved : goal.loop-row-preserved
loop-row-preserved c =
    let all = each_row c.args.rows.now in
    let row = c.in-Some.row in
    let old = c.loop-row.cells.cells in
    let new = c.admit.new.cells.cells in
    let kept = c.loop-row.invariant in
    let told = c.in_ok-admit.ensures in
    let origins = c.args.origins.now.reaches in
    let customers = c.args.customers in
    let steps = c.in-Some.ensures.steps in
    let order : InPrefixOrder (row ∷ c.next.new.self) = subst InPrefixOrder steps kept.order in
    let at = c.ifaces-ifaces.ensures.at in
    record {
      over = c.ifaces-ifaces.ensures.over all kept.over;
      order = order.1;
      none_before = subst (λ a. AllByRecursion (λ (later : Row). NotBefore a later.prefix) c.next.new.self) (sym at)
          order.0;
      beside = told.at ∙ sym at;
      fresh = λ p behind.
          let after : IsBefore row.prefix p = subst (λ a. IsBehind a p) at behind in
          told.kept p (λ e. not_before_itself p (subst (λ q. IsBefore q p) e after))
          ∙ kept.fresh p (behind_still c.loop-row.ahead.at row.prefix p (first_of c.loop-row.ahead.at c.loop-row.row-iterator row c.next.new.self steps kept.none_before) after);
      f = λ p i.
          let before : (InMask (cell_at old p).f i ⊎ Hears (row ∷ c.next.new.self) i p) ↔ Hears all i p =
          subst (λ rows. (InMask (cell_at old p).f i ⊎ Hears rows i p) ↔ Hears all i p) steps (kept.f p i) in
          elim (same_or_not row.prefix p) [
            | inl same ↦ known before
                (subst (λ m. InMask m i ↔ Hears all i p) (sym (told.f p same))
                (subst (λ q. InMask c.ifaces-ifaces.result i ↔ Hears all i q) same
                (c.ifaces-ifaces.ensures.heard all kept.over i)))
            | inr other ↦
                subst (λ (x : Cell). (InMask x.f i ⊎ Hears c.next.new.self i p) ↔ Hears all i p) (sym (told.kept p other))
                (passed_over before (λ h. other h.0))
          ];
      a = λ p i. moved
          (subst
          (λ rows. (InMask (cell_at old p).a i ⊎ SomeRow (IsListed all customers i p) rows) ↔ InListA all customers i p)
          steps (kept.a p i))
          (either_by
          (subst
          (λ (reach : Reach). InMask (cell_at new p).a i
          ↔ (InMask (cell_at old p).a i ⊎ ((row.prefix ≡ p) × Admits reach customers i))) c.of-reach.ensures (told.a p i))
          (admits all customers origins c.requires i row.origin));
      z = λ p. moved
          (subst
          (λ rows. (IsTrue (cell_at old p).z ⊎ SomeRow (IsForSetZ all customers p) rows) ↔ InSetZ all customers p)
          steps (kept.z p))
          (either_by
          (subst
          (λ (reach : Reach). IsTrue (cell_at new p).z
          ↔ (IsTrue (cell_at old p).z
          ⊎ ((row.prefix ≡ p) × (InMask customers row.iface ⊎ IsTrue reach.in_set_a)))) c.of-reach.ensures (told.z p))
          (admitted all customers origins c.requires row));
      filled = told.filled kept.filled;
    }

pub returns : goal.returns
returns c =
    let all = each_row c.args.rows.now in
    let customers = c.args.customers in
    let kept = c.loop-row.invariant in
    let none = c.in-None.ensures.steps.0 in
    let made : AreCells all customers c.loop-row.cells.cells = record {
      f = λ p i. done (kept.f p i) (no_row (IsHeard i p) c.loop-row.row-iterator none);
      a = λ p i. done (kept.a p i) (no_row (IsListed all customers i p) c.loop-row.row-iterator none);
      z = λ p. done (kept.z p) (no_row (IsForSetZ all customers p) c.loop-row.row-iterator none);
      filled = kept.filled;
    } in
    if_ok c.finish.result c.finish.ensures (λ cells same. subst (AreCells all customers) (sym same) made)
