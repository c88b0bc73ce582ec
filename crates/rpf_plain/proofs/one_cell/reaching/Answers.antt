use Rattle.std.proofs.Common.{◌⊎◌, ◌↔◌, subst, sym, ◌∙◌}
use Rattle.urpf_base.specs.Masks.{InMask}
use Rattle.rpf_plain.specs.declared.rows.Row.{Row}
use Rattle.rpf_plain.specs.Kept.{each_row}
use Rattle.rpf_plain.specs.Walks.{IsReached, SomeRow}
use Rattle.rpf_plain.proofs.Turns.{begun, done, moved, no_member, no_row}
use Rattle.rpf_plain.proofs.one_cell.reaching.Goals as goal

pub loop-row-init : goal.loop-row-init
loop-row-init c i =
    let all = each_row c.args.rows.now in
    let Is : Row → Type 0 = IsReached all c.args.origin i in
    let start = c.into_iter-row-iterator.ensures.into_iter_gives ∙ c.rows-row-items.ensures.list in
    subst (λ rows. (InMask c.empty-ifaces.result i ⊎ SomeRow Is rows) ↔ SomeRow Is all) (sym start)
    (begun (λ h. no_member i (subst (λ m. InMask m i) c.empty-ifaces.ensures h)))

pub loop-row-preserved : goal.loop-row-preserved
loop-row-preserved c i =
    let all = each_row c.args.rows.now in
    let Is : Row → Type 0 = IsReached all c.args.origin i in
    moved
    (subst (λ rows. (InMask c.loop-row.ifaces i ⊎ SomeRow Is rows) ↔ SomeRow Is all) c.in-Some.ensures.steps
    (c.loop-row.invariant i))
    (c.with_reached-ifaces.ensures i)

pub returns : goal.returns
returns c i =
    let all = each_row c.args.rows.now in
    done (c.loop-row.invariant i)
    (no_row (IsReached all c.args.origin i) c.loop-row.row-iterator c.in-None.ensures.steps.0)
