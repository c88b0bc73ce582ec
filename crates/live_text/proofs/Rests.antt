-- What the workers make of a round and of the later ones, worker by worker.
use Rattle.std.proofs.Common.{◌≡◌, ℕ, ◌+◌, ◌≤◌, List, [], ◌∷◌, length, Some}
use Rattle.std.proofs.Common.{subst, arith}
use Rattle.std.specs.List.{AllZip}
use mathlib.Core.List.{IsPrefix}
use Rattle.cover_table.specs.declared.batch.Batch.{Batch}
use Rattle.forward_worker.specs.declared.desk.Stop.TheVariants as stop
use Rattle.run_lines.specs.Inputs.{Run}
use Rattle.run_lines.specs.Places.{opening}
use Rattle.run_lines.specs.Publications.{AreBatches}
use Rattle.run_lines.specs.Steps.{Step}
use Rattle.live_rounds.specs.Stations.{Station, WorkedRound, table_of}
use Rattle.live_text.specs.Numbers.{last_of, round_count}
use Rattle.live_text.specs.Tables.{Table}
use Rattle.live_text.proofs.Joined.{IsRestOf, fall_from, last_round, round_first}
use Rattle.live_text.proofs.RoundRows.{IsFloor, in_round}
use Rattle.live_text.proofs.RoundTexts.{put_rows}
use Rattle.live_text.proofs.RoundsRead.{IsEmptied}
use Rattle.live_text.proofs.Worked.{worked_last, worked_read}

-- each table is that of what the stream of its worker has left, where that is told, from this round on
abbrev pub AreRests : Run → List Step → ℕ → ℕ → List Station → List Table → Type 0
AreRests run steps number lowest [] [] = Unit {0}
AreRests run steps number lowest [] (table ∷ tables) = ⊥
AreRests run steps number lowest (s ∷ stations) [] = ⊥
AreRests run steps number lowest (s ∷ stations) (table ∷ tables) =
    ((text : List ℕ) → s.left ≡ Some text → IsEmptied s.desk text
    → IsRestOf run steps (round_count steps + 1) s.desk.worker s.desk.place number lowest text table)
    × AreRests run steps number lowest stations tables

module _ (run : Run) (steps : List Step) (all batches : List Batch)
    (are : AreBatches run (opening run.config.sessions) steps all) (begins : IsPrefix batches all) (number : ℕ)
    (high : length batches ≤ last_of steps number) (lowest : ℕ)
    (floor : IsFloor run steps all batches are begins number high lowest) where
  -- a round, and the later ones behind it
  pub rests_first : (olds news : List Station) (tables : List Table) → lowest ≤ length batches
      → number ≤ round_count steps
      → AllZip (WorkedRound stop.Marker run.config.interfaces batches lowest) olds news
      → AreRests run steps (number + 1) (length batches) news tables
      → AreRests run steps number lowest olds (put_rows number run.config.interfaces batches news tables)
  rests_first [] [] [] low within worked rests = tt
  rests_first [] [] (table ∷ tables) low within worked rests = absurd rests
  rests_first [] (new ∷ news) tables low within worked rests = absurd worked
  rests_first (old ∷ olds) [] tables low within worked rests = absurd worked
  rests_first (old ∷ olds) (new ∷ news) [] low within worked rests = absurd rests
  rests_first (old ∷ olds) (new ∷ news) (table ∷ tables) low within worked rests = (
    λ text has emptied.
        let read = worked_read run.config.interfaces batches lowest (round_count steps + 1) old new text has emptied
        number worked.0 in
        round_first run steps all batches are begins number high new.known lowest floor (round_count steps + 1) old.desk
        new.desk text new.left new.rows new.outcome table low read.0 worked.0.judged
        (subst (λ (r : ℕ). IsRestOf run steps (round_count steps + 1) new.desk.worker new.desk.place r (length batches)
        read.0.rest table) (omega (arith, within)) (rests.0 read.0.rest read.0.left read.1)),
    rests_first olds news tables low within worked.1 rests.1,
  )

-- the last round
pub rests_last : (run : Run) (steps : List Step) (all batches : List Batch)
    (are : AreBatches run (opening run.config.sessions) steps all) (begins : IsPrefix batches all)
    (high : length batches ≤ last_of steps (round_count steps + 1)) (lowest : ℕ)
    (floor : IsFloor run steps all batches are begins (round_count steps + 1) high lowest) (low : ℕ) → low ≤ lowest
    → (olds news : List Station) → AllZip (WorkedRound stop.End run.config.interfaces batches lowest) olds news
    → AreRests run steps (round_count steps + 1) low olds
    (put_rows (round_count steps + 1) run.config.interfaces batches news [])
rests_last run steps all batches are begins high lowest floor low under [] [] worked = tt
rests_last run steps all batches are begins high lowest floor low under [] (new ∷ news) worked = absurd worked
rests_last run steps all batches are begins high lowest floor low under (old ∷ olds) [] worked = absurd worked
rests_last run steps all batches are begins high lowest floor low under (old ∷ olds) (new ∷ news) worked = (
  λ text has emptied.
      let whole = last_round run steps all batches are begins (round_count steps + 1) high new.known lowest floor old.desk
      new.desk text new.rows
      (worked_last run.config.interfaces batches lowest (round_count steps + 1) old new text has emptied worked.0)
      worked.0.judged in
      record {
        good = whole.good;
        rows = whole.rows;
        ordered = fall_from low lowest (in_round (round_count steps + 1) (table_of run.config.interfaces batches new)) under
            whole.ordered;
      },
  rests_last run steps all batches are begins high lowest floor low under olds news worked.1,
)
