-- Fields of a code, a length and a value (RFC 4271, section 4.2; RFC 5492, section 4).
use Rattle.std.specs.Prelude.{◌≡◌, ℕ, ◌+◌, ◌==◌, Bool, nat_le, if◌then◌else◌, List, [], ◌∷◌, length, take, drop, Option}
use Rattle.std.specs.Prelude.{Some, None}
use Rattle.urpf_base.specs.Series.{values_in}

-- a parameter with its type, or a capability with its code, and its value
pub record Field : Type 0 where
  pub code : ℕ
  pub value : List ℕ

abbrev pub field : ℕ → List ℕ → Field
field code value = record { code = code; value = value }

-- one octet each for the code and for the length of the value, and then the value
abbrev pub SpellsField : List ℕ → Field → Type 0
SpellsField text f = text ≡ f.code ∷ length f.value ∷ f.value

-- the field that a text begins with and the rest, and none where no field stands there whole
abbrev pub field_at : List ℕ → Option (Field × List ℕ)
field_at [] = None
field_at (code ∷ []) = None
field_at (code ∷ count ∷ rest) =
    if nat_le count (length rest) then Some (field code (take count rest), drop count rest) else None

-- the fields that stand one after the other from the front of a text
abbrev pub fields_in : List ℕ → List Field
fields_in text = values_in field_at text

-- the octets that fields take
abbrev pub octets_of : List Field → ℕ
octets_of [] = 0
octets_of (f ∷ fs) = 2 + length f.value + octets_of fs

-- no field runs past the end of the text: those that stand in it take all of its octets
abbrev pub are_fields : List ℕ → Bool
are_fields text = octets_of (fields_in text) == length text
