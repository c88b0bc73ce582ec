use Rattle.std.proofs.Common.{◌≡◌, ◌⊎◌, ◌↔◌, IsTrue, ◌∷◌, false, subst, sym, ap, ◌∙◌}
use Rattle.std.specs.List.{AllByRecursion}
use Rattle.urpf_base.specs.Masks.{InMask}
use Rattle.rpf_plain.specs.declared.rows.Row.{Row}
use Rattle.rpf_plain.specs.Ahead.{InPrefixOrder, NotBefore}
use Rattle.rpf_plain.specs.Kept.{each_row}
use Rattle.rpf_plain.specs.Walks.{InSetA, IsCustomers, IsOwn, IsReached, Owns, Reaches, SomeRow, reach_at}
use Rattle.rpf_plain.proofs.Leading.{first_of, from_none}
use Rattle.rpf_plain.proofs.Turns.{begun, done, either_by, moved, no_member, no_row}
use Rattle.rpf_plain.proofs.origins.reaches.Goals as goal

pub loop-row-init : goal.loop-row-init
loop-row-init c =
    let all = each_row c.args.rows.now in
    let origins = c.new-origins.result.reaches in
    let start = c.into_iter-row-iterator.ensures.into_iter_gives ∙ c.rows-row-items.ensures.list in
    record {
      over = c.over-ahead.ensures.over;
      order = subst InPrefixOrder (sym start) c.rows-row-items.ensures.order;
      none_before = subst (λ at. AllByRecursion (λ (row : Row). NotBefore at row.prefix) c.into_iter-row-iterator.result)
          (sym c.over-ahead.ensures.at) (from_none c.into_iter-row-iterator.result);
      ifaces = λ a i. subst
          (λ rows. (InMask (reach_at origins a).ifaces i ⊎ SomeRow (IsReached all a i) rows) ↔ Reaches all a i)
          (sym start)
          (begun (λ h. no_member i (subst (λ m. InMask m i) (ap (λ r. r.ifaces) (c.new-origins.ensures a)) h)));
      own = λ a i. subst (λ rows. (InMask (reach_at origins a).own i ⊎ Owns rows a i) ↔ Owns all a i) (sym start)
          (begun (λ h. no_member i (subst (λ m. InMask m i) (ap (λ r. r.own) (c.new-origins.ensures a)) h)));
      in_set_a = λ a. subst
          (λ rows. (IsTrue (reach_at origins a).in_set_a ⊎ InSetA rows c.args.customers a)
          ↔ InSetA all c.args.customers a)
          (sym start)
          (begun
          (λ h. let no : (reach_at origins a).in_set_a ≡ false = ap (λ r. r.in_set_a) (c.new-origins.ensures a) in cc));
    }

pub ifaces-ifaces-requires : goal.ifaces-ifaces-requires
ifaces-ifaces-requires c =
    first_of c.loop-row.ahead.at c.loop-row.row-iterator c.in-Some.row c.next.new.self c.in-Some.ensures.steps
    c.loop-row.invariant.none_before

pub loop-row-preserved : goal.loop-row-preserved
loop-row-preserved c =
    let all = each_row c.args.rows.now in
    let row = c.in-Some.row in
    let old = c.loop-row.origins.reaches in
    let told = c.in_ok-add.ensures in
    let order : InPrefixOrder (row ∷ c.next.new.self) =
    subst InPrefixOrder c.in-Some.ensures.steps c.loop-row.invariant.order in
    record {
      over = c.ifaces-ifaces.ensures.over all c.loop-row.invariant.over;
      order = order.1;
      none_before = subst (λ a. AllByRecursion (λ (later : Row). NotBefore a later.prefix) c.next.new.self)
          (sym c.ifaces-ifaces.ensures.at) order.0;
      ifaces = λ a i. moved
          (subst (λ rows. (InMask (reach_at old a).ifaces i ⊎ SomeRow (IsReached all a i) rows) ↔ Reaches all a i)
          c.in-Some.ensures.steps (c.loop-row.invariant.ifaces a i))
          (either_by (told.ifaces a i)
          (c.ifaces-ifaces.ensures.heard all c.loop-row.invariant.over i));
      own = λ a i. moved
          (subst (λ rows. (InMask (reach_at old a).own i ⊎ Owns rows a i) ↔ Owns all a i) c.in-Some.ensures.steps
          (c.loop-row.invariant.own a i))
          (told.own a i);
      in_set_a = λ a. moved
          (subst
          (λ rows. (IsTrue (reach_at old a).in_set_a ⊎ InSetA rows c.args.customers a) ↔ InSetA all c.args.customers a)
          c.in-Some.ensures.steps (c.loop-row.invariant.in_set_a a))
          (either_by (told.in_set_a a) c.has.ensures.value);
    }

pub returns : goal.returns
returns c = record {
  ifaces = λ a i. done (c.loop-row.invariant.ifaces a i)
      (no_row (IsReached (each_row c.args.rows.now) a i) c.loop-row.row-iterator c.in-None.ensures.steps.0);
  own = λ a i. done (c.loop-row.invariant.own a i)
      (no_row (IsOwn a i) c.loop-row.row-iterator c.in-None.ensures.steps.0);
  in_set_a = λ a. done (c.loop-row.invariant.in_set_a a)
      (no_row (IsCustomers c.args.customers a) c.loop-row.row-iterator c.in-None.ensures.steps.0);
}
