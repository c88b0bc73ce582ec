-- Fields of a message that are one value after the other: prefixes, path segments, attributes, parameters.
use Rattle.std.specs.Prelude.{◌≡◌, ℕ, zero, suc, ◌<◌, List, [], ◌∷◌, ◌++◌, length, Option, Some, None}

-- the text is one spelling of the value, and then the rest
pub record Begins {X : Type 0} (Spells : List ℕ → X → Type 0) (text : List ℕ) (value : X) (rest : List ℕ) : Type 0 where
  pub one : List ℕ
  pub spelled : Spells one value
  pub parts : text ≡ one ++ rest

-- the text is spellings of the values, one after the other, and nothing else
abbrev pub SpellsAll : {X : Type 0} → (List ℕ → X → Type 0) → List ℕ → List X → Type 0
SpellsAll Spells text [] = text ≡ []
SpellsAll Spells text (x ∷ xs) = (rest : List ℕ) × Begins Spells text x rest × SpellsAll Spells rest xs

-- front answers the first value that a text spells and the rest, and none where the text begins with no spelling
pub record ReadsFront {X : Type 0} (Spells : List ℕ → X → Type 0) (front : List ℕ → Option (X × List ℕ)) : Type 0 where
  pub taken : (text rest : List ℕ) (x : X) → front text ≡ Some (x, rest) → Begins Spells text x rest
  pub again : (one rest : List ℕ) (x : X) → Spells one x → front (one ++ rest) ≡ Some (x, rest)
  pub some : (one : List ℕ) (x : X) → Spells one x → 0 < length one

-- the value that was found, and what the rest holds
abbrev pub first_and_more : {X : Type 0} → (List ℕ → List X) → Option (X × List ℕ) → List X
first_and_more more None = []
first_and_more more (Some found) = found.0 ∷ more found.1

-- at most so many values, one after the other, up to the first place where none is spelled
abbrev pub values_within : {X : Type 0} → (List ℕ → Option (X × List ℕ)) → ℕ → List ℕ → List X
values_within front zero text = []
values_within front (suc k) text = first_and_more (values_within front k) (front text)

-- all of them: each takes an octet or more
abbrev pub values_in : {X : Type 0} → (List ℕ → Option (X × List ℕ)) → List ℕ → List X
values_in front text = values_within front (length text) text
