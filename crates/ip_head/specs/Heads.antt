-- The head of a packet, its source, and why it has none (RFC 791, section 3.1; RFC 8200, section 3).
use Rattle.std.specs.Prelude.{◌≡◌, ◌≢◌, ℕ, ◌/◌, ◌%◌, ◌<◌, ◌≤◌, ◌⊎◌, List, length, take, drop, slice_index}
use Rattle.std.specs.Int.{w32, w128, from_be_bytes}
use Rattle.urpf_base.specs.declared.address.Addr.{Addr}
use Rattle.urpf_base.specs.declared.address.Addr.TheVariants.{V4, V6}

-- the version is the first four bits (RFC 791, section 3.1; RFC 8200, section 3)
abbrev pub version_in : List ℕ → ℕ
version_in head = slice_index head 0 / 16

-- the length of an IPv4 header in units of four octets is the next four bits (RFC 791, section 3.1)
abbrev pub ihl_in : List ℕ → ℕ
ihl_in head = slice_index head 0 % 16

-- an IPv4 header of at least five units, whose source is octets 12 to 15 (RFC 791, section 3.1)
pub record HasIpv4Source (head : List ℕ) (source : ℕ) : Type 0 where
  pub version : version_in head ≡ 4
  pub header : 20 ≤ length head
  pub ihl : 5 ≤ ihl_in head
  pub value : source ≡ from_be_bytes w32 (take 4 (drop 12 head))

-- an IPv6 header, whose source is octets 8 to 23 (RFC 8200, section 3)
pub record HasIpv6Source (head : List ℕ) (source : ℕ) : Type 0 where
  pub version : version_in head ≡ 6
  pub header : 40 ≤ length head
  pub value : source ≡ from_be_bytes w128 (take 16 (drop 8 head))

-- the packet names this address as its source
abbrev pub HasSource : List ℕ → Addr → Type 0
HasSource head (V4 number) = HasIpv4Source head number
HasSource head (V6 number) = HasIpv6Source head number

-- no octet, or fewer than the header of its version has
abbrev pub IsShort : List ℕ → Type 0
IsShort head = (length head ≡ 0)
    ⊎ ((version_in head ≡ 4) × (length head < 20))
    ⊎ ((version_in head ≡ 6) × (length head < 40))

-- a version that is neither 4 nor 6
abbrev pub IsOfAnotherVersion : List ℕ → Type 0
IsOfAnotherVersion head = (0 < length head) × (version_in head ≢ 4) × (version_in head ≢ 6)

-- an IPv4 header whose length says fewer than its 20 octets (RFC 791, section 3.1)
abbrev pub HasLowIhl : List ℕ → Type 0
HasLowIhl head = (version_in head ≡ 4) × (20 ≤ length head) × (ihl_in head < 5)
