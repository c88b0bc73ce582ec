-- The order of prefixes. Our own choice.
use Rattle.std.specs.Prelude.{◌≡◌}
use Rattle.std.specs.Ordering.{nat_cmp, ordering_then}
use Rattle.std.specs.declared.cmp.Ordering.{Ordering}
use Rattle.std.specs.declared.cmp.Ordering.TheVariants.{Less, Greater}
use Rattle.urpf_base.specs.Address.{Block}
use Rattle.urpf_base.specs.declared.address.Addr.{Addr}
use Rattle.urpf_base.specs.declared.address.Addr.TheVariants.{V4, V6}

-- IPv4 comes before IPv6, and within a family the lesser number first
abbrev pub addr_order : Addr → Addr → Ordering
addr_order (V4 a) (V4 b) = nat_cmp a b
addr_order (V4 a) (V6 b) = Less
addr_order (V6 a) (V4 b) = Greater
addr_order (V6 a) (V6 b) = nat_cmp a b

-- by the address first, and at one address the shorter prefix first
abbrev pub prefix_order : Block → Block → Ordering
prefix_order a b = ordering_then (addr_order a.addr b.addr) (nat_cmp a.len b.len)

-- the first prefix comes before the second
abbrev pub IsBefore : Block → Block → Type 0
IsBefore a b = prefix_order a b ≡ Less
