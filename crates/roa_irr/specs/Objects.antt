-- The attributes of an object (RFC 2622, section 2): a name, a colon and a value, which may go on in further lines.
use Rattle.std.specs.Prelude.{◌+◌, ◌==◌, ◌||◌, ℕ, Bool, List, [], ◌∷◌, map, take, drop, position, Option, Some, None}
use Rattle.std.specs.Prelude.{if◌then◌else◌}
use Rattle.std.specs.Char.{to_ascii_lowercase}
use Rattle.std.specs.List.{join_with_byte}
use Rattle.std.specs.Str.{bytes_eq}
use Rattle.roa_irr.specs.Lines.{is_blank, opens_remark, plain, trimmed}

-- an attribute as it is written: its name, and the parts of its value, one a line
pub record Attribute : Type 0 where
  pub name : List ℕ
  pub parts : List (List ℕ)

-- a space, a tab or a plus sign in front of a line that continues the value before it
abbrev pub opens_continued : ℕ → Bool
opens_continued octet = is_blank octet || (octet == 43)

-- a colon
abbrev pub ends_name : ℕ → Bool
ends_name octet = octet == 58

-- what lines from here on continue of a value before them, and the attributes that begin in them
pub record Continued : Type 0 where
  pub parts : List (List ℕ)
  pub attributes : List Attribute

-- one more part in front
abbrev pub with_part : List ℕ → Continued → Continued
with_part part more = record { parts = part ∷ more.parts; attributes = more.attributes }

-- an attribute begins, which takes what continues it
abbrev pub with_attribute : List ℕ → List ℕ → Continued → Continued
with_attribute name part more = record {
  parts = [];
  attributes = record { name = name; parts = part ∷ more.parts } ∷ more.attributes;
}

-- the name stands before the first colon, and a value's part behind it. A line without one is passed over
abbrev pub begun : Option ℕ → List ℕ → Continued → Continued
begun None line more = more
begun (Some colon) line more = with_attribute (take colon line) (plain (drop (colon + 1) line)) more

-- one line in front of what follows it
abbrev pub with_line : List ℕ → Continued → Continued
with_line [] more = more
with_line (octet ∷ octets) more =
    if opens_remark octet then more
    else (if opens_continued octet then with_part (plain octets) more
    else begun (position ends_name (octet ∷ octets)) (octet ∷ octets) more)

-- lines, from the last to the first
abbrev pub continued : List (List ℕ) → Continued
continued [] = record { parts = []; attributes = [] }
continued (line ∷ lines) = with_line line (continued lines)

-- the attributes of an object. What continues nothing at its beginning is passed over
abbrev pub attributes_of : List (List ℕ) → List Attribute
attributes_of lines = (continued lines).attributes

-- the value: its parts, joined by one space, without blanks around it
abbrev pub value_of : Attribute → List ℕ
value_of a = trimmed (join_with_byte 32 a.parts)

-- whether this name is the one that is wanted, in letters of either case (RFC 2622, section 2)
abbrev pub is_named : List ℕ → List ℕ → Bool
is_named wanted name = bytes_eq (map to_ascii_lowercase name) (map to_ascii_lowercase wanted)

-- the first attribute of this name
abbrev pub first_named : List ℕ → List Attribute → Option Attribute
first_named name [] = None
first_named name (a ∷ more) = if is_named name a.name then Some a else first_named name more
