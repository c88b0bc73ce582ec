-- The exchange that adds a batch keeps what holds of the history.
use Rattle.std.proofs.Common.{◌≡◌, ℕ, ◌+◌, ◌<◌, ◌==◌, Bool, true, false, List, [], ◌∷◌, ◌++◌, length, refl, ap, sym, subst, arith, inl, length-append, None}
use Rattle.std.proofs.lemmas.List.{append-nil}
use Rattle.std.proofs.lemmas.Bool.Decides.{nat_tests}
use mathlib.Core.List.{IsPrefix}
use prog.Atomic.{either}
use Rattle.logbook.specs.Pages.{Cell, cell, keeps, no_nib, step, Moves, Goes}
use Rattle.cover_table.specs.declared.batch.Batch.{Batch}
use Rattle.epoch_publish.specs.History.{AreNumbered, IsKept, Adds}
use Rattle.epoch_publish.proofs.Beginnings.{prefix_whole}
use Rattle.epoch_publish.proofs.Numbering.{numbered_more}

abbrev pub shown : List Batch → List Batch
shown history = []

abbrev pub moved : List Batch → List Batch → ℕ → Type 0
moved xs ys n = Unit {0}

pub adds_goes : (log v : List Batch) (e : Batch) (old : ℕ) → length v ≡ old → e.number ≡ old + 1 → AreNumbered log → IsPrefix v log
    → (b : Bool) → (length log == old) ≡ b
    → Goes IsKept shown moved 0 (v, (no_nib, None)) (λ n. either (n == old) e.number n) (Adds (step 0 old e.number e) (v, (no_nib, None))) ((length log, true) ∷ (0, true) ∷ []) log
adds_goes log v e old len next numbered pre true is =
    let here : length log ≡ old = grind (arith, nat_tests) in
    let same : v ≡ log = prefix_whole v log pre (omega arith) in
    let numbered' : AreNumbered (log ++ e ∷ []) = numbered_more 1 log e numbered (omega (arith, next, here)) in
    let n : either (length log == old) e.number (length log) ≡ length (log ++ e ∷ []) = rw is (omega (arith, length-append log (e ∷ []), next, here)) in (
      keeps,
      e ∷ [],
      None,
      tt,
      record { words = ap (λ (k : ℕ). (k, true) ∷ (0, true) ∷ []) n; numbered = numbered' },
      inl (refl, refl),
      rw is (ap (λ w. w ++ e ∷ []) (sym same), numbered'),
    )
adds_goes log v e old len next numbered pre false is =
    let all : log ++ [] ≡ log = append-nil log in
    let numbered' : AreNumbered (log ++ []) = subst AreNumbered (sym all) numbered in
    let n : either (length log == old) e.number (length log) ≡ length (log ++ []) = rw is (ap length (sym all)) in (
      keeps,
      [],
      None,
      tt,
      record { words = ap (λ (k : ℕ). (k, true) ∷ (0, true) ∷ []) n; numbered = numbered' },
      inl (refl, refl),
      rw is (ap length all, numbered'),
    )

-- whatever the history is, the exchange adds the batch to all that was seen, or finds that the history is longer
pub adds_moves : (v : List Batch) (e : Batch) (old : ℕ) → length v ≡ old → e.number ≡ old + 1
    → Moves IsKept shown moved 0 (v, (no_nib, None)) (λ n. either (n == old) e.number n) (Adds (step 0 old e.number e) (v, (no_nib, None)))
adds_moves v e old len next cs log kept pre away =
    let P : List Cell → Type 0 = λ c. (0 < length c) × ((cell c 0).1 ≡ true) × Goes IsKept shown moved 0 (v, (no_nib, None)) (λ n. either (n == old) e.number n) (Adds (step 0 old e.number e) (v, (no_nib, None))) c log in
    subst P (sym kept.words) (omega arith, refl, adds_goes log v e old len next kept.numbered pre (length log == old) refl)
