-- The texts of addresses, as they are read and printed.
use Rattle.std.specs.Prelude.{◌≡◌, ℕ, ◌/◌, ◌%◌, ◌^◌, ◌<◌, ◌*◌, List, [], ◌∷◌, length, map, decimal, ◌⊎◌}
use Rattle.std.specs.Char.{digit_char}
use Rattle.std.specs.Int.{w32, to_be_bytes}
use Rattle.std.specs.Int.Digits.{number_from_digits}
use Rattle.std.specs.List.{join_with_byte}
use Rattle.ip_text.specs.Groups.{IsGroups, IsShortened}
use Rattle.urpf_base.specs.declared.address.Addr.{Addr}
use Rattle.urpf_base.specs.declared.address.Addr.TheVariants.{V4, V6}

-- four decimal numbers without leading zeros, parted by dots, the highest octet first (RFC 6943, section 3.1.1, the
-- strict form)
abbrev pub dotted : ℕ → List ℕ
dotted n = join_with_byte 46 (map decimal (to_be_bytes w32 n))

-- the 16 bits of the group at this place, counted from the lowest, which is 0 (RFC 4291, section 2.2)
abbrev pub group_at : ℕ → ℕ → ℕ
group_at place n = n / 2 ^ (16 * place) % 2 ^ 16

-- the eight groups of an IPv6 address, the highest first (RFC 4291, section 2.2)
abbrev pub groups_of : ℕ → List ℕ
groups_of n =
    group_at 7 n ∷ group_at 6 n ∷ group_at 5 n ∷ group_at 4 n ∷ group_at 3 n ∷ group_at 2 n ∷ group_at 1 n
    ∷ group_at 0 n ∷ []

-- a group as four lower-case hexadecimal digits, zeros and all. Our own choice: RFC 5952 would leave zeros out
abbrev pub four_digits : ℕ → List ℕ
four_digits g =
    digit_char (g / 2 ^ 12) ∷ digit_char (g / 2 ^ 8 % 16) ∷ digit_char (g / 2 ^ 4 % 16) ∷ digit_char (g % 16) ∷ []

-- groups of four digits, parted by colons
abbrev pub grouped : List ℕ → List ℕ
grouped groups = join_with_byte 58 (map four_digits groups)

-- what is printed of an address
abbrev pub addr_text : Addr → List ℕ
addr_text (V4 n) = dotted n
addr_text (V6 n) = grouped (groups_of n)

-- the eight groups, one after the other (RFC 4291, section 2.2, the first form), or fewer and one gap (the second form)
pub record IsV6 (text : List ℕ) (n : ℕ) : Type 0 where
  pub groups : List ℕ
  pub eight : length groups ≡ 8
  pub number : n ≡ number_from_digits (2 ^ 16) groups
  pub spelled : IsGroups text groups ⊎ IsShortened text groups

-- the number has as many bits as its family, or fewer
abbrev pub IsAddr : Addr → Type 0
IsAddr (V4 n) = n < 2 ^ 32
IsAddr (V6 n) = n < 2 ^ 128

-- the text spells the address
abbrev pub SpellsAddr : List ℕ → Addr → Type 0
SpellsAddr text (V4 n) = (n < 2 ^ 32) × (text ≡ dotted n)
SpellsAddr text (V6 n) = IsV6 text n
