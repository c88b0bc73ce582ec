-- The table of a worker: the rows of a round, and those of the later rounds behind them.
use Rattle.std.proofs.Common.{ℕ, ◌+◌, ◌≤◌, Bool, List, [], ◌∷◌, ◌++◌, length, map, min, Option}
use Rattle.std.proofs.Common.{sym, subst, arith}
use Rattle.std.specs.List.{AllZip}
use Rattle.urpf_base.specs.declared.kinds.Kind.{Kind}
use Rattle.cover_table.specs.declared.batch.Batch.{Batch}
use Rattle.feed_io.specs.Packets.{records_in}
use Rattle.forward_worker.specs.declared.desk.Desk.{Desk}
use Rattle.forward_worker.specs.declared.desk.WorkerEnd.{WorkerEnd}
use Rattle.forward_worker.specs.declared.rows.CheckRow.{CheckRow}
use Rattle.run_lines.specs.Inputs.{Run}
use Rattle.run_lines.specs.Places.{opening}
use Rattle.run_lines.specs.Publications.{AreBatches}
use Rattle.run_lines.specs.Steps.{Step}
use mathlib.Core.List.{IsPrefix}
use Rattle.live_rounds.specs.Rows.{AreJudged, Row, final_row}
use Rattle.live_text.specs.Numbers.{last_of}
use Rattle.live_text.specs.Packets.{IsGood, Packet, packets_from}
use Rattle.live_text.specs.Tables.{IsRowFor, NeverFall, Table}
use Rattle.live_text.proofs.RoundRows.{IsFloor, in_round, legal_rows}
use Rattle.live_text.proofs.RoundsRead.{LastRead, RoundRead}

-- the table is that of what a stream has left, from a place and a round on, and names no mark before this one
pub record IsRestOf (run : Run) (steps : List Step) (last worker place round lowest : ℕ) (text : List ℕ)
    (table : Table) : Type 0 where
  pub good : IsGood text
  pub rows : AllZip (IsRowFor run steps) (packets_from last worker place round (records_in text)) table
  pub ordered : NeverFall lowest table

zip-append : (run : Run) (steps : List Step) (ps qs : List Packet) (a b : Table) → AllZip (IsRowFor run steps) ps a
    → AllZip (IsRowFor run steps) qs b → AllZip (IsRowFor run steps) (ps ++ qs) (a ++ b)
zip-append run steps [] qs [] b first later = later
zip-append run steps [] qs (x ∷ a) b first later = absurd first
zip-append run steps (p ∷ ps) qs [] b first later = absurd first
zip-append run steps (p ∷ ps) qs (x ∷ a) b first later = (first.0, zip-append run steps ps qs a b first.1 later)

pub fall_from : (low number : ℕ) (table : Table) → low ≤ number → NeverFall number table → NeverFall low table
fall_from low number [] le ordered = tt
fall_from low number (x ∷ table) le ordered = (let up = ordered.0 in omega (arith, le, up), ordered.1)

-- judged rows, and those behind them that name no mark before the last one
judged_then : (kinds : List (ℕ × Kind)) (batches : List Batch) (round lowest : ℕ) (rows : List Row) (later : Table)
    → lowest ≤ length batches → AreJudged kinds batches lowest rows → NeverFall (length batches) later
    → NeverFall lowest (in_round round rows ++ later)
judged_then kinds batches round lowest [] later low judged ordered =
    fall_from lowest (length batches) later low ordered
judged_then kinds batches round lowest (row ∷ rows) later low judged ordered =
    (judged.0, judged_then kinds batches round row.number rows later judged.1 judged.3 ordered)

module _ (run : Run) (steps : List Step) (all batches : List Batch)
    (are : AreBatches run (opening run.config.sessions) steps all) (begins : IsPrefix batches all) (round : ℕ)
    (high : length batches ≤ last_of steps round) (known : Bool) (lowest : ℕ)
    (floor : IsFloor run steps all batches are begins round high lowest) where
  -- a round, and the later ones behind it
  pub round_first : (last : ℕ) (old new : Desk) (text : List ℕ) (has : Option (List ℕ)) (rows : List CheckRow)
      (outcome : WorkerEnd) (later : Table) → lowest ≤ length batches
      → (read : RoundRead last round old new text has rows outcome)
      → AreJudged run.config.interfaces batches lowest (map (final_row known run.config.interfaces batches) rows)
      → IsRestOf run steps last new.worker new.place (min (round + 1) last) (length batches) read.rest later
      → IsRestOf run steps last old.worker old.place round lowest text
      (in_round round (map (final_row known run.config.interfaces batches) rows) ++ later)
  round_first last old new text has rows outcome later low read judged rest =
      let table : Table = in_round round (map (final_row known run.config.interfaces batches) rows) in
      let legal = legal_rows run steps all batches are begins round high known lowest read.packets rows floor read.paired
      judged in
      record {
        good = read.good rest.good;
        rows = subst (λ (ps : List Packet). AllZip (IsRowFor run steps) ps (table ++ later)) (sym read.parts)
            (zip-append run steps read.packets
            (packets_from last new.worker new.place (min (round + 1) last) (records_in read.rest)) table later legal.0
            rest.rows);
        ordered = judged_then run.config.interfaces batches round lowest
            (map (final_row known run.config.interfaces batches) rows) later low judged rest.ordered;
      }

  -- the last round
  pub last_round : (old new : Desk) (text : List ℕ) (rows : List CheckRow) → LastRead round old new text rows
      → AreJudged run.config.interfaces batches lowest (map (final_row known run.config.interfaces batches) rows)
      → IsRestOf run steps round old.worker old.place round lowest text
      (in_round round (map (final_row known run.config.interfaces batches) rows))
  last_round old new text rows read judged =
      let legal = legal_rows run steps all batches are begins round high known lowest
      (packets_from round old.worker old.place round (records_in text)) rows floor read.paired judged in
      record { good = read.good; rows = legal.0; ordered = legal.1 }
