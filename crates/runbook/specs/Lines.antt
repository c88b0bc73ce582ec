-- The lines of a runbook and their words. Our own format.
use Rattle.std.specs.Prelude.{ℕ, ◌+◌, ◌-◌, ◌==◌, ◌||◌, Bool, true, false, List, [], ◌∷◌, ◌++◌, length, take}
use Rattle.std.specs.Prelude.{slice_index, bytes_eq, codes, if◌then◌else◌}
use Rattle.std.specs.List.{slice_split, before_first, filter}

-- a line feed
abbrev pub ends_line : ℕ → Bool
ends_line octet = octet == 10

-- a space or a tab
abbrev pub is_blank : ℕ → Bool
is_blank octet = (octet == 32) || (octet == 9)

-- a number sign
abbrev pub opens_comment : ℕ → Bool
opens_comment octet = octet == 35

-- a carriage return at the end is dropped
abbrev pub without_return : List ℕ → List ℕ
without_return line = if slice_index line (length line - 1) == 13 then take (length line - 1) line else line

-- all but the last are ended by a line feed, and a carriage return before it is dropped
abbrev pub ended : List (List ℕ) → List (List ℕ)
ended [] = []
ended (line ∷ []) = line ∷ []
ended (line ∷ next ∷ more) = without_return line ∷ ended (next ∷ more)

-- the lines, parted by line feeds
abbrev pub lines_of : List ℕ → List (List ℕ)
lines_of text = ended (slice_split ends_line text)

abbrev pub is_word : List ℕ → Bool
is_word [] = false
is_word (octet ∷ octets) = true

-- the words, parted by spaces and tabs
abbrev pub words_in : List ℕ → List (List ℕ)
words_in text = filter is_word (slice_split is_blank text)

-- the words of a line before its comment
abbrev pub words_of : List ℕ → List (List ℕ)
words_of line = words_in (before_first opens_comment line)

-- the words are those of a line that ends a round
abbrev pub is_round : List (List ℕ) → Bool
is_round (word ∷ []) = bytes_eq word (codes "round")
is_round _ = false

-- so many rounds are ended once these words are passed
abbrev pub counted : ℕ → List (List ℕ) → ℕ
counted rounds words = if is_round words then rounds + 1 else rounds

-- a line that has words: its number, how many lines before it end a round, and its words
pub record Line : Type 0 where
  pub number : ℕ
  pub rounds : ℕ
  pub words : List (List ℕ)

abbrev pub one_numbered : ℕ → ℕ → List (List ℕ) → List Line
one_numbered number rounds [] = []
one_numbered number rounds (word ∷ words) = record { number = number; rounds = rounds; words = word ∷ words } ∷ []

-- the lines that have words, where the first line has this number and so many rounds are ended before it
abbrev pub numbered_from : ℕ → ℕ → List (List ℕ) → List Line
numbered_from number rounds [] = []
numbered_from number rounds (line ∷ lines) =
    one_numbered number rounds (words_of line)
    ++ numbered_from (number + 1) (counted rounds (words_of line)) lines

-- the lines of a text that have words; lines are numbered from 1
abbrev pub numbered : List ℕ → List Line
numbered text = numbered_from 1 0 (lines_of text)
