-- The table that records or objects come to.
use Rattle.std.specs.Prelude.{◌≡◌, ◌+◌, ℕ, List, [], ◌∷◌}
use Rattle.origin_pairs.specs.Pairs.{Pair}
use Rattle.roa_irr.specs.declared.pairs.Outcome.{Outcome}
use Rattle.roa_irr.specs.declared.pairs.Outcome.TheVariants as outcome

-- a table as contracts see it: its pairs in order, with repeats, and how many records gave none
pub record Table : Type 0 where
  pub pairs : List Pair
  pub skipped : ℕ

-- the pairs among what records come to
abbrev pub pairs_of : List Outcome → List Pair
pairs_of [] = []
pairs_of (outcome.Pair prefix origin ∷ more) = (prefix, origin) ∷ pairs_of more
pairs_of (outcome.Skipped ∷ more) = pairs_of more
pairs_of (outcome.Ignored ∷ more) = pairs_of more

-- how many records are skipped
abbrev pub skipped_of : List Outcome → ℕ
skipped_of [] = 0
skipped_of (outcome.Pair prefix origin ∷ more) = skipped_of more
skipped_of (outcome.Skipped ∷ more) = skipped_of more + 1
skipped_of (outcome.Ignored ∷ more) = skipped_of more

-- the table of what records come to
abbrev pub table_of : List Outcome → Table
table_of outcomes = record { pairs = pairs_of outcomes; skipped = skipped_of outcomes }

-- this is what the item comes to, and nothing else is
pub record IsOnly {A : Type 0} (ComesTo : A → Outcome → Type 0) (item : A) (one : Outcome) : Type 0 where
  pub found : ComesTo item one
  pub only : (other : Outcome) → ComesTo item other → one ≡ other

-- the most pairs of a table. Our own choice
abbrev pub pairs_max : ℕ
pairs_max = 4000000
