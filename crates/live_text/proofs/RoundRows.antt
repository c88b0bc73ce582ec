-- The rows of one round are legal: each is that of its packet, in its bounds, with the verdict of its mark.
use Rattle.std.proofs.Common.{◌≡◌, ℕ, ◌+◌, ◌-◌, ◌<◌, ◌≤◌, Bool, List, [], ◌∷◌, length, map, take}
use Rattle.std.proofs.Common.{sym, ap, subst, ◌∙◌, arith}
use Rattle.std.proofs.lemmas.List.{length-append}
use Rattle.std.specs.List.{AllZip}
use mathlib.Core.List.{IsPrefix}
use Rattle.urpf_base.specs.declared.verdicts.Verdict.{Verdict}
use Rattle.cover_table.specs.Judging.{judge}
use Rattle.cover_table.specs.Snapshots.{fold}
use Rattle.cover_table.specs.declared.batch.Batch.{Batch}
use Rattle.forward_worker.specs.declared.rows.CheckRow.{CheckRow}
use Rattle.run_lines.specs.Inputs.{Run}
use Rattle.run_lines.specs.Places.{opening}
use Rattle.run_lines.specs.Publications.{AreBatches}
use Rattle.run_lines.specs.Steps.{Step}
use Rattle.live_rounds.specs.Rows.{AreJudged, Row, final_row}
use Rattle.live_rounds.proofs.Judging.{take_of_prefix}
use Rattle.live_text.specs.Numbers.{last_of, round_count}
use Rattle.live_text.specs.Packets.{Packet}
use Rattle.live_text.specs.Tables.{IsRowFor, IsVerdictOf, NeverFall, Table}
use Rattle.live_text.proofs.Reading.{IsPacketRow}
use Rattle.live_text.proofs.Verdicts.{verdict_of_mark}

-- rows, each with this round
abbrev pub in_round : ℕ → List Row → Table
in_round round rows = map (λ row. (round, row)) rows

module _ (run : Run) (steps : List Step) (all batches : List Batch)
    (are : AreBatches run (opening run.config.sessions) steps all) (begins : IsPrefix batches all) (round : ℕ)
    (high : length batches ≤ last_of steps round) where
  row_verdict : (row : Row) → row.number ≤ length batches
      → row.verdict ≡ judge (fold run.config.interfaces (take row.number batches)) row.iface row.source
      → IsVerdictOf run steps row.number row.iface row.source row.verdict
  row_verdict row most is =
      let longer : length all ≡ length batches + length begins.0 =
      ap length (sym begins.1) ∙ length-append batches begins.0 in
      let same : judge (fold run.config.interfaces (take row.number all)) row.iface row.source ≡ row.verdict =
      ap (λ (bs : List Batch). judge (fold run.config.interfaces bs) row.iface row.source)
      (take_of_prefix row.number batches all begins most) ∙ sym is in
      subst (λ (v : Verdict). IsVerdictOf run steps row.number row.iface row.source v) same
      (verdict_of_mark run steps all are row.number (omega (arith, most, longer)) row.iface row.source)

  -- the bounds of the round for rows from this number on
  abbrev pub IsFloor : ℕ → Type 0
  IsFloor lowest =
      (round ≤ round_count steps → last_of steps (round - 1) ≤ lowest)
      × (round_count steps < round → last_of steps round ≤ lowest)

  floor_up : (lowest number : ℕ) → lowest ≤ number → IsFloor lowest → IsFloor number
  floor_up lowest number up floor = (
    λ within. let low = floor.0 within in omega (arith, low, up),
    λ behind. let low = floor.1 behind in omega (arith, low, up),
  )

  one_row : (known : Bool) (lowest : ℕ) (packet : Packet) (row : CheckRow) → IsFloor lowest
      → IsPacketRow round packet row
      → lowest ≤ (final_row known run.config.interfaces batches row).number
      → (final_row known run.config.interfaces batches row).number ≤ length batches
      → IsVerdictOf run steps (final_row known run.config.interfaces batches row).number row.iface row.source
      (final_row known run.config.interfaces batches row).verdict
      → IsRowFor run steps packet (round, final_row known run.config.interfaces batches row)
  one_row known lowest packet row floor is low most verdict =
      let number : ℕ = (final_row known run.config.interfaces batches row).number in
      let bounds = floor_up lowest number low floor in
      let top : number ≤ last_of steps round = omega (arith, most, high) in
      record {
        round = sym is.round_is;
        worker = is.worker;
        place = is.place;
        iface = is.iface;
        source = is.source;
        lowest = subst (λ (r : ℕ). r ≤ round_count steps → last_of steps (r - 1) ≤ number) (sym is.round_is) bounds.0;
        highest = subst (λ (r : ℕ). number ≤ last_of steps r) (sym is.round_is) top;
        behind = subst (λ (r : ℕ). round_count steps < r → number ≡ last_of steps r) (sym is.round_is)
            (λ past. let least = bounds.1 past in omega (arith, least, top));
        judged = verdict;
      }

  pub legal_rows : (known : Bool) (lowest : ℕ) (packets : List Packet) (rows : List CheckRow) → IsFloor lowest
      → AllZip (IsPacketRow round) packets rows
      → AreJudged run.config.interfaces batches lowest (map (final_row known run.config.interfaces batches) rows)
      → AllZip (IsRowFor run steps) packets
      (in_round round (map (final_row known run.config.interfaces batches) rows))
      × NeverFall lowest (in_round round (map (final_row known run.config.interfaces batches) rows))
  legal_rows known lowest [] [] floor paired judged = (tt, tt)
  legal_rows known lowest [] (row ∷ rows) floor paired judged = absurd paired
  legal_rows known lowest (packet ∷ packets) [] floor paired judged = absurd paired
  legal_rows known lowest (packet ∷ packets) (row ∷ rows) floor paired judged =
      let number : ℕ = (final_row known run.config.interfaces batches row).number in
      let more = legal_rows known number packets rows (floor_up lowest number judged.0 floor) paired.1 judged.3 in (
        (
          one_row known lowest packet row floor paired.0 judged.0 judged.1
              (row_verdict (final_row known run.config.interfaces batches row) judged.1 judged.2),
          more.0,
        ),
        (judged.0, more.1),
      )
