-- The lines of a text of routing policy objects, and what is read of one. Registries publish this form; where they differ
-- it is our own choice.
use Rattle.std.specs.Prelude.{◌≡◌, ◌-◌, ◌==◌, ◌||◌, ℕ, Bool, true, false, List, [], ◌∷◌, ◌++◌, length, take, slice_index}
use Rattle.std.specs.Prelude.{if◌then◌else◌}
use Rattle.std.specs.List.{slice_split, before_first}

-- a line feed
abbrev pub ends_line : ℕ → Bool
ends_line octet = octet == 10

-- a space or a tab
abbrev pub is_blank : ℕ → Bool
is_blank octet = (octet == 32) || (octet == 9)

-- a number sign
abbrev pub opens_comment : ℕ → Bool
opens_comment octet = octet == 35

-- a number or a percent sign in front of a line that is passed over
abbrev pub opens_remark : ℕ → Bool
opens_remark octet = (octet == 35) || (octet == 37)

-- a carriage return at the end is dropped
abbrev pub without_return : List ℕ → List ℕ
without_return line = if slice_index line (length line - 1) == 13 then take (length line - 1) line else line

-- all but the last are ended by a line feed, and a carriage return before it is dropped. Behind the last line feed there
-- may be nothing, which is no line
abbrev pub ended : List (List ℕ) → List (List ℕ)
ended [] = []
ended ([] ∷ []) = []
ended ((octet ∷ octets) ∷ []) = (octet ∷ octets) ∷ []
ended (line ∷ next ∷ more) = without_return line ∷ ended (next ∷ more)

-- the lines of the text
abbrev pub lines_of : List ℕ → List (List ℕ)
lines_of text = ended (slice_split ends_line text)

abbrev pub is_empty : List ℕ → Bool
is_empty [] = true
is_empty (octet ∷ octets) = false

-- the lines of each object: empty lines part them. An object may have no line
abbrev pub objects_of : List ℕ → List (List (List ℕ))
objects_of text = slice_split is_empty (lines_of text)

-- what stands before a comment
abbrev pub plain : List ℕ → List ℕ
plain part = before_first opens_comment part

-- a text without blanks at its beginning
abbrev pub trimmed_front : List ℕ → List ℕ
trimmed_front [] = []
trimmed_front (octet ∷ octets) = if is_blank octet then trimmed_front octets else octet ∷ octets

-- and none at its end: an octet is kept where it is no blank or something follows that is kept
abbrev pub kept_before : ℕ → List ℕ → List ℕ
kept_before octet [] = if is_blank octet then [] else octet ∷ []
kept_before octet (next ∷ more) = octet ∷ next ∷ more

abbrev pub trimmed_end : List ℕ → List ℕ
trimmed_end [] = []
trimmed_end (octet ∷ octets) = kept_before octet (trimmed_end octets)

-- a text without blanks around it
abbrev pub trimmed : List ℕ → List ℕ
trimmed text = trimmed_end (trimmed_front text)

-- a space stands in the text
abbrev pub HasSpace : List ℕ → Type 0
HasSpace text = (front : List ℕ) × (rest : List ℕ) × (text ≡ front ++ (32 ∷ rest))
