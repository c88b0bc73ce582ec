use Rattle.std.proofs.Common.{◌↔◌, sym, subst, ◌∙◌, refl}
use Rattle.rpf_plain.specs.declared.rows.Row.{Row}
use Rattle.rpf_plain.specs.Kept.{each_row}
use Rattle.rpf_plain.specs.Walks.{IsCustomers, SomeRow}
use Rattle.rpf_plain.proofs.Turns.{never, no_row, one_is, passed}
use Rattle.rpf_plain.proofs.one_cell.in_set_a.Goals as goal

pub loop-row-init : goal.loop-row-init
loop-row-init c =
    let all = each_row c.args.rows.now in
    let Is : Row → Type 0 = IsCustomers c.args.customers c.args.origin in
    let start = c.into_iter-row-iterator.ensures.into_iter_gives ∙ c.rows-row-items.ensures.list in
    subst (λ rows. SomeRow Is rows ↔ SomeRow Is all) (sym start) (λ h. h, λ h. h)

pub loop-row-preserved : goal.loop-row-preserved
loop-row-preserved c =
    let all = each_row c.args.rows.now in
    let Is : Row → Type 0 = IsCustomers c.args.customers c.args.origin in
    passed (subst (λ rows. SomeRow Is rows ↔ SomeRow Is all) c.in-Some.ensures.steps c.loop-row.invariant)
    (λ h. let no = c.if-is_customers.ensures.1 h in absurd cc)

pub returns-then-is_customers : goal.returns-then-is_customers
returns-then-is_customers c =
    let all = each_row c.args.rows.now in
    let Is : Row → Type 0 = IsCustomers c.args.customers c.args.origin in
    one_is (subst (λ rows. SomeRow Is rows ↔ SomeRow Is all) c.in-Some.ensures.steps c.loop-row.invariant)
    (c.if-is_customers.ensures.0 refl)

pub returns : goal.returns
returns c =
    let all = each_row c.args.rows.now in
    never c.loop-row.invariant
    (no_row (IsCustomers c.args.customers c.args.origin) c.loop-row.row-iterator c.in-None.ensures.steps.0)
