-- The list of all batches that were handed over, which threads share in proofs alone. Our own choice.
use Rattle.std.specs.Prelude.{◌≡◌, ℕ, ◌+◌, ◌==◌, true, List, [], ◌∷◌, ◌++◌, length, MatchBool}
use Rattle.logbook.specs.Pages.{Cell, Step, View, Book, Named}
use Rattle.cover_table.specs.declared.batch.Batch.{Batch}

-- the batches are numbered without a gap, the first one with this number
abbrev pub AreNumberedFrom : ℕ → List Batch → Type 0
AreNumberedFrom number [] = Unit {0}
AreNumberedFrom number (batch ∷ batches) = (batch.number ≡ number) × AreNumberedFrom (number + 1) batches

-- the batches are numbered from 1 without a gap
abbrev pub AreNumbered : List Batch → Type 0
AreNumbered batches = AreNumberedFrom 1 batches

-- the last one of the batches is this one
abbrev pub EndIn : List Batch → Batch → Type 0
EndIn batches batch = (earlier : List Batch) × (batches ≡ earlier ++ batch ∷ [])

-- the first word is the length of the history, whose batches are numbered; the second one stays 0
pub record IsKept (cells : List Cell) (history : List Batch) : Type 0 where
  pub words : cells ≡ (length history, true) ∷ (0, true) ∷ []
  pub numbered : AreNumbered history

-- the name of the first word
abbrev pub head_of : Book → Named
head_of book = record { tracked = true; key = 0; book = book }

-- the batch was added to all that had been seen, or the history was longer and was seen
abbrev pub Adds : Step Batch → View Batch ℕ → ℕ → View Batch ℕ → Type 0
Adds s v found w =
    MatchBool (found == s.old)
    ((w.0 ≡ v.0 ++ s.ask ∷ []) × AreNumbered w.0)
    ((length w.0 ≡ found) × AreNumbered w.0)
