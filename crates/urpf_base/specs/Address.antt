-- Addresses, prefixes, and when a prefix covers an address.
use Rattle.std.specs.Prelude.{◌≡◌, ℕ, ◌-◌, ◌*◌, ◌/◌, ◌^◌, ◌<◌, ◌≤◌}
use Rattle.std.specs.Int.{bit_at}
use Rattle.urpf_base.specs.declared.address.Addr.{Addr}
use Rattle.urpf_base.specs.declared.address.Addr.TheVariants.{V4, V6}

-- the i-th bit of a number of so many bits, counted from the highest, which is bit 0
abbrev pub bit_from_highest : ℕ → ℕ → ℕ → ℕ
bit_from_highest width number i = bit_at number (width - 1 - i)

-- the first len bits of both numbers agree, bit by bit from the highest
abbrev pub FirstBitsAgree : ℕ → ℕ → ℕ → ℕ → Type 0
FirstBitsAgree width len a b = (i : ℕ) → i < len → bit_from_highest width a i ≡ bit_from_highest width b i

-- both addresses are of one family, and their first len bits agree
abbrev pub AgreeUpTo : ℕ → Addr → Addr → Type 0
AgreeUpTo len (V4 a) (V4 b) = FirstBitsAgree 32 len a b
AgreeUpTo len (V4 a) (V6 b) = ⊥
AgreeUpTo len (V6 a) (V4 b) = ⊥
AgreeUpTo len (V6 a) (V6 b) = FirstBitsAgree 128 len a b

-- how many bits an address of this family has
abbrev pub width_of : Addr → ℕ
width_of (V4 a) = 32
width_of (V6 a) = 128

-- a number of so many bits, with all bits past the first len set to zero
abbrev pub cleared : ℕ → ℕ → ℕ → ℕ
cleared width len number = number / 2 ^ (width - len) * 2 ^ (width - len)

abbrev pub cleared_addr : ℕ → Addr → Addr
cleared_addr len (V4 a) = V4 (cleared 32 len a)
cleared_addr len (V6 a) = V6 (cleared 128 len a)

-- a prefix as contracts see it: an address, and how many of its first bits count (RFC 4271, section 4.3)
pub record Block : Type 0 where
  pub addr : Addr
  pub len : ℕ

-- the bits past len are irrelevant (RFC 4271, section 4.3), so they are kept as zeros
abbrev pub block_of : ℕ → Addr → Block
block_of len addr = record { addr = cleared_addr len addr; len = len }

-- len counts bits that the address has, and the bits past it are zero
pub record IsBlock (addr : Addr) (len : ℕ) : Type 0 where
  pub within : len ≤ width_of addr
  pub zeros : cleared_addr len addr ≡ addr

-- the prefix covers the address: one family, and the first bits of both agree (RFC 8704, section 3.1; RFC 3704, section
-- 2.3)
abbrev pub Covers : Block → Addr → Type 0
Covers prefix addr = AgreeUpTo prefix.len prefix.addr addr
