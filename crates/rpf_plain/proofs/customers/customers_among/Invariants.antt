use Rattle.std.proofs.Common.{◌↔◌, ◌⊎◌, ℕ, drop}
use Rattle.urpf_base.specs.Masks.{InMask}
use Rattle.rpf_plain.specs.Walks.{HasCustomer}
use Rattle.rpf_plain.proofs.customers.customers_among.Given as goal

abbrev pub invariant-loop-row : goal.invariant-loop-row
invariant-loop-row l =
    (i : ℕ) → (InMask l.customers i ⊎ HasCustomer (drop l.row-index l.rows) i) ↔ HasCustomer l.rows i
