use Rattle.std.proofs.Common.{◌↔◌, subst}
use Rattle.urpf_base.specs.Masks.{InMask}
use Rattle.rpf_plain.specs.Walks.{HasCustomer}
use Rattle.rpf_plain.proofs.Listed.{listed}
use Rattle.rpf_plain.proofs.Turns.{both}
use Rattle.rpf_plain.proofs.customers.customers_of.Goals as goal

pub returns : goal.returns
returns c i =
    both
    (subst (λ kinds. InMask c.customers_among.result i ↔ HasCustomer kinds i) c.items.ensures.value
    (c.customers_among.ensures i))
    (listed c.args.kinds.now c.items.ensures.ascending i)
