-- The rows of a round as they are written are judged by the batches that are published at its end.
use Rattle.std.proofs.Common.{◌≡◌, ℕ, ◌<◌, ◌≤◌, Bool, true, false, nat_lt, if◌then◌else◌, List, [], ◌∷◌, length, map, take}
use Rattle.std.proofs.Common.{Option, Some, None, MatchOption, refl, ap, sym, subst, ◌∙◌, arith}
use Rattle.std.proofs.lemmas.List.{take-append-le}
use Rattle.std.proofs.Math.Seq.{take-length}
use borrow.Author.Tests.{ltb-true, ltb-false}
use mathlib.Core.List.{IsPrefix}
use Rattle.urpf_base.specs.declared.kinds.Kind.{Kind}
use Rattle.urpf_base.specs.declared.verdicts.Verdict.{Verdict}
use Rattle.cover_table.specs.Judging.{judge}
use Rattle.cover_table.specs.Snapshots.{fold}
use Rattle.cover_table.specs.declared.batch.Batch.{Batch}
use Rattle.forward_worker.specs.Answers.{AreAnswered, NoneAnswered}
use Rattle.forward_worker.specs.declared.rows.CheckRow.{CheckRow}
use Rattle.live_rounds.specs.Rows.{AreJudged, Row, answer_or, final_row, newest, row_with}

-- so many first batches of a list are those of a list that begins it
pub take_of_prefix : (n : ℕ) (batches all : List Batch) → IsPrefix batches all → n ≤ length batches
    → take n all ≡ take n batches
take_of_prefix n batches all p within =
    ap (λ l. take n l) (sym p.1) ∙ take-append-le n batches p.0 within

module _ (kinds : List (ℕ × Kind)) (batches : List Batch) where
  -- a row with the verdict of the last batch, before rows that have no lower number
  newest_first : (lowest : ℕ) (row : CheckRow) (rest : List Row) → lowest ≤ length batches
      → AreJudged kinds batches (length batches) rest
      → AreJudged kinds batches lowest (row_with row (newest kinds batches row) ∷ rest)
  newest_first lowest row rest low later = (
    low,
    omega arith,
    ap (λ l. judge (fold kinds l) row.iface row.source) (sym (take-length batches)),
    later,
  )

  none_judged : (rows : List CheckRow) → NoneAnswered rows
      → AreJudged kinds batches (length batches) (map (final_row true kinds batches) rows)
  none_judged [] none = tt
  none_judged (row ∷ rows) none =
      subst
      (λ a. AreJudged kinds batches (length batches) (row_with row (answer_or kinds batches row a) ∷ map (final_row true kinds batches) rows))
      (sym none.0)
      (newest_first (length batches) row (map (final_row true kinds batches) rows) (omega arith) (none_judged rows none.1))

  -- rows of a worker that is not known to have been told
  pub unknown_judged : (lowest : ℕ) (rows : List CheckRow) → lowest ≤ length batches
      → AreJudged kinds batches lowest (map (final_row false kinds batches) rows)
  unknown_judged lowest [] low = tt
  unknown_judged lowest (row ∷ rows) low =
      newest_first lowest row (map (final_row false kinds batches) rows) low
      (unknown_judged (length batches) rows (omega arith))

  module _ (all : List Batch) (begins : IsPrefix batches all) where
    chosen : (lowest : ℕ) (row : CheckRow) (rows : List CheckRow) (answer : ℕ × Verdict) (late : Bool)
        → nat_lt (length batches) answer.0 ≡ late → lowest ≤ answer.0 → lowest ≤ length batches
        → answer.1 ≡ judge (fold kinds (take answer.0 all)) row.iface row.source → AreAnswered kinds all answer.0 rows
        → ((lowest low : ℕ) → lowest ≤ low → lowest ≤ length batches → AreAnswered kinds all low rows
        → AreJudged kinds batches lowest (map (final_row true kinds batches) rows))
        → AreJudged kinds batches lowest
        (row_with row (if late then newest kinds batches row else answer) ∷ map (final_row true kinds batches) rows)
    chosen lowest row rows answer true is low last verdict answered later =
        let past : length batches < answer.0 = ltb-true (length batches) answer.0 is in
        newest_first lowest row (map (final_row true kinds batches) rows) last
        (later (length batches) answer.0 (omega arith) (omega arith) answered)
    chosen lowest row rows answer false is low last verdict answered later =
        let within : answer.0 ≤ length batches = ltb-false (length batches) answer.0 is in (
          low,
          within,
          verdict ∙ ap (λ l. judge (fold kinds l) row.iface row.source) (take_of_prefix answer.0 batches all begins within),
          later answer.0 answer.0 (omega arith) within answered,
        )

    known_by : (lowest low : ℕ) (row : CheckRow) (rows : List CheckRow) (answer : Option (ℕ × Verdict)) → lowest ≤ low
        → lowest ≤ length batches
        → MatchOption answer ((low ≤ length all) × NoneAnswered rows)
        (λ a. (low ≤ a.0) × (a.1 ≡ judge (fold kinds (take a.0 all)) row.iface row.source) × AreAnswered kinds all a.0 rows)
        → ((lowest low : ℕ) → lowest ≤ low → lowest ≤ length batches → AreAnswered kinds all low rows
        → AreJudged kinds batches lowest (map (final_row true kinds batches) rows))
        → AreJudged kinds batches lowest
        (row_with row (answer_or kinds batches row answer) ∷ map (final_row true kinds batches) rows)
    known_by lowest low row rows None from last m later =
        newest_first lowest row (map (final_row true kinds batches) rows) last (none_judged rows m.1)
    known_by lowest low row rows (Some a) from last m later =
        chosen lowest row rows a (nat_lt (length batches) a.0) refl (omega (arith, from, m.0)) last m.1 m.2 later

    -- rows of a worker that was told of these batches, and saw or was told of all
    pub known_judged : (rows : List CheckRow) (lowest low : ℕ) → lowest ≤ low → lowest ≤ length batches
        → AreAnswered kinds all low rows → AreJudged kinds batches lowest (map (final_row true kinds batches) rows)
    known_judged [] lowest low from last answered = tt
    known_judged (row ∷ rows) lowest low from last answered =
        known_by lowest low row rows row.answer from last answered (known_judged rows)
