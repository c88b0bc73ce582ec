-- An attribute, and its spelling (RFC 4271, section 4.3).
use Rattle.std.specs.Prelude.{◌≡◌, ℕ, Bool, not, ◌==◌, bit_and, if◌then◌else◌, List, ◌∷◌, ◌++◌, length, map}
use Rattle.byteorder.specs.Endian.{big_number}
use Rattle.bgp_attr.specs.declared.attribute.TheConstants.{EXTENDED_LENGTH}

-- an attribute: its flags, the code of its type, and its value
pub record Attribute : Type 0 where
  pub flags : ℕ
  pub code : ℕ
  pub value : List ℕ

abbrev pub attribute_of : ℕ → ℕ → List ℕ → Attribute
attribute_of flags code value = record { flags = flags; code = code; value = value }

-- the octet of flags has this flag
abbrev pub has_flag : ℕ → ℕ → Bool
has_flag flag flags = not (bit_and flags flag == 0)

-- how many octets the length has
abbrev pub length_octets : ℕ → ℕ
length_octets flags = if has_flag EXTENDED_LENGTH flags then 2 else 1

-- the octets are one attribute: flags, type, the length of the value in one octet or two, and the value
pub record SpellsAttribute (text : List ℕ) (attribute : Attribute) : Type 0 where
  pub size : List ℕ
  pub parts : text ≡ attribute.flags ∷ attribute.code ∷ (size ++ attribute.value)
  pub sized : length size ≡ length_octets attribute.flags
  pub counted : length attribute.value ≡ big_number (length_octets attribute.flags) size

-- the codes of the types of attributes, in their order
abbrev pub codes : List Attribute → List ℕ
codes attributes = map (λ a. a.code) attributes
