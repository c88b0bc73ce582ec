use Rattle.std.proofs.Common.{◌≡◌, ◌⊎◌, ◌↔◌, ◌+◌, ◌∷◌, drop, subst}
use Rattle.urpf_base.specs.Masks.{InMask}
use Rattle.rpf_plain.specs.Walks.{HasCustomer}
use Rattle.rpf_plain.proofs.Listed.{no_listed, rest_of}
use Rattle.rpf_plain.proofs.Turns.{begun, done, moved, no_member}
use Rattle.rpf_plain.proofs.customers.customers_among.Goals as goal

pub loop-row-init : goal.loop-row-init
loop-row-init c i = begun (λ h. no_member i (subst (λ m. InMask m i) c.empty-customers.ensures h))

pub loop-row-preserved : goal.loop-row-preserved
loop-row-preserved c i =
    let rows = c.args.rows.now in
    let n = c.loop-row.row-index in
    let row = c.row-item.result in
    let next : drop n rows ≡ row ∷ drop (n + 1) rows = rest_of rows n row c.loop-row-test.true c.row-item.is in
    moved
    (subst (λ l. (InMask c.loop-row.customers i ⊎ HasCustomer l i) ↔ HasCustomer rows i) next (c.loop-row.invariant i))
    (c.with_customer-customers.ensures i)

pub returns : goal.returns
returns c i =
    done (c.loop-row.invariant i) (no_listed c.args.rows.now c.loop-row.row-index c.loop-row-test.false i)
