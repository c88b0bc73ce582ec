-- The prefixes of an UPDATE, read out of the fields that hold them.
use Rattle.std.specs.Prelude.{ℕ, List, ◌++◌}
use Rattle.urpf_base.specs.Address.{Block}
use Rattle.bgp_nlri.specs.Front.{prefixes_in}
use Rattle.bgp_nlri.specs.Nlri.{SpellsPrefixes}
use Rattle.bgp_nlri.specs.declared.family.Family.TheVariants.{V4, V6}

-- the prefixes of a field of IPv4 prefixes, and then those of a field of IPv6 prefixes
abbrev pub both_in : List ℕ → List ℕ → List Block
both_in ipv4 ipv6 = prefixes_in V4 ipv4 ++ prefixes_in V6 ipv6

-- both fields are well formed
pub record AreFields (ipv4 ipv6 : List ℕ) : Type 0 where
  pub front : SpellsPrefixes V4 ipv4 (prefixes_in V4 ipv4)
  pub back : SpellsPrefixes V6 ipv6 (prefixes_in V6 ipv6)
