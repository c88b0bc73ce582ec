-- The first attribute of a field as a function, beside the relation of what its spelling is.
use Rattle.std.specs.Prelude.{ℕ, nat_lt, if◌then◌else◌, List, [], ◌∷◌, length, take, drop, Option, Some, None}
use Rattle.byteorder.specs.Endian.{big_number}
use Rattle.bgp_attr.specs.Attribute.{Attribute, attribute_of, length_octets}

-- the attribute whose value is so many first octets of the text, and the octets after them
abbrev pub cut_attribute : ℕ → ℕ → ℕ → List ℕ → Attribute × List ℕ
cut_attribute flags code count text = (attribute_of flags code (take count text), drop count text)

-- none where there are too few octets for the value
abbrev pub attribute_of_length : ℕ → ℕ → ℕ → List ℕ → Option (Attribute × List ℕ)
attribute_of_length flags code count text =
    if nat_lt (length text) count then None else Some (cut_attribute flags code count text)

-- none where there are too few octets for the length
abbrev pub attribute_after : ℕ → ℕ → ℕ → List ℕ → Option (Attribute × List ℕ)
attribute_after flags code octets text =
    if nat_lt (length text) octets then None
    else attribute_of_length flags code (big_number octets text) (drop octets text)

-- the first attribute of a field, and what is left of the field
abbrev pub attribute_front : List ℕ → Option (Attribute × List ℕ)
attribute_front [] = None
attribute_front (flags ∷ []) = None
attribute_front (flags ∷ code ∷ text) = attribute_after flags code (length_octets flags) text
