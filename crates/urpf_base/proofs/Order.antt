-- Prefixes are compared in their order.
use Rattle.std.proofs.Common.{◌≡◌, ℕ, refl}
use Rattle.std.specs.Ordering.{nat_cmp, ordering_then}
use Rattle.urpf_base.specs.Address.{Block}
use Rattle.urpf_base.specs.Order.{addr_order, prefix_order}
use Rattle.urpf_base.specs.declared.address.Addr.{Addr}
use Rattle.urpf_base.specs.declared.address.Addr.TheVariants.{V4, V6}
use Rattle.urpf_base.specs.contracts.prefixes.PrefixOrd.TheImpl as prefix_ord

by_parts : (a b : Addr) (m n : ℕ)
    → (prefix_ord.ghosts).cmp (record { addr = a; len = m }) (record { addr = b; len = n })
    ≡ ordering_then (addr_order a b) (nat_cmp m n)
by_parts (V4 a) (V4 b) m n = refl
by_parts (V4 a) (V6 b) m n = refl
by_parts (V6 a) (V4 b) m n = refl
by_parts (V6 a) (V6 b) m n = refl

-- what the comparison of the type computes
pub compares : (a b : Block) → (prefix_ord.ghosts).cmp a b ≡ prefix_order a b
compares a b = by_parts a.addr b.addr a.len b.len
