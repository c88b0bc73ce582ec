-- A field of prefixes: each is a length octet and the octets that hold so many bits (RFC 4271, section 4.3; RFC 4760,
-- section 5).
use Rattle.std.specs.Prelude.{◌≡◌, ℕ, ◌+◌, ◌-◌, ◌/◌, ◌≤◌, List, ◌∷◌, ◌++◌, length, replicate}
use Rattle.std.specs.Int.{w32, w128, from_be_bytes}
use Rattle.urpf_base.specs.declared.address.Addr.{Addr}
use Rattle.urpf_base.specs.declared.address.Addr.TheVariants as addr
use Rattle.urpf_base.specs.Address.{Block, block_of}
use Rattle.urpf_base.specs.Series.{SpellsAll}
use Rattle.bgp_nlri.specs.declared.family.Family.{Family}
use Rattle.bgp_nlri.specs.declared.family.Family.TheVariants.{V4, V6}

-- the least number of octets that holds so many bits
abbrev pub octets_for : ℕ → ℕ
octets_for bits = (bits + 7) / 8

-- how many bits the addresses of a family have: the bound on a prefix's length
abbrev pub bits_of : Family → ℕ
bits_of V4 = 32
bits_of V6 = 128

-- the address whose octets are these, the highest first
abbrev pub addr_from : Family → List ℕ → Addr
addr_from V4 octets = addr.V4 (from_be_bytes w32 octets)
addr_from V6 octets = addr.V6 (from_be_bytes w128 octets)

-- the octets of a prefix, with zero octets after them up to those of an address
abbrev pub filled_up : Family → List ℕ → List ℕ
filled_up family octets = octets ++ replicate (octets_for (bits_of family) - length octets) 0

-- the octets are one prefix: its length in bits, and the least number of octets for so many; bits past the length are
-- irrelevant
pub record SpellsPrefix (family : Family) (text : List ℕ) (prefix : Block) : Type 0 where
  pub len : ℕ
  pub octets : List ℕ
  pub parts : text ≡ len ∷ octets
  pub within : len ≤ bits_of family
  pub least : length octets ≡ octets_for len
  pub value : prefix ≡ block_of len (addr_from family (filled_up family octets))

-- the field is these prefixes, one after the other, and nothing else
abbrev pub SpellsPrefixes : Family → List ℕ → List Block → Type 0
SpellsPrefixes family field prefixes = SpellsAll (SpellsPrefix family) field prefixes
