-- What a round comes to, and what comes behind the last one, out of what their parts do.
use Rattle.std.proofs.Common.{◌≡◌, ℕ, ◌+◌, ◌≤◌, List, length, map, slice_get, slice_range}
use Rattle.std.proofs.Common.{Option, Some, Ok, Err, Result, OnOk, sym, subst, ◌∙◌}
use Rattle.std.specs.List.{AllByRecursion, AllZip}
use Rattle.std.specs.Io.KnownBytes.{Appends}
use mathlib.Core.List.{IsPrefix}
use Rattle.logbook.specs.Pages.{Book}
use Rattle.urpf_base.specs.declared.kinds.Kind.{Kind}
use Rattle.urpf_base.proofs.Growth.{Appends-append}
use Rattle.cover_table.specs.declared.batch.Batch.{Batch}
use Rattle.report_text.specs.Lines.{done_line}
use Rattle.runbook.specs.declared.lines.BookLine.{BookLine}
use Rattle.runbook.specs.declared.lines.BookLine.TheVariants as line
use Rattle.forward_worker.specs.declared.desk.Stop.TheVariants as stop
use Rattle.forward_worker.proofs.Answering.{prefix_trans}
use Rattle.live_rounds.specs.Parts.{Running, Slots, Standing}
use Rattle.live_rounds.specs.Rounds.{AreOthers, IsLastOf, IsRoundOf, packet_count, stage, tables_text}
use Rattle.live_rounds.specs.Stations.{IsFine, IsReady, Settled, Worked, station_of}
use Rattle.live_rounds.specs.declared.worker.Worker.{Worker}
use Rattle.live_rounds.proofs.Joining.{range_more, range_one}
use Rattle.live_rounds.proofs.Working.{all_last, all_worked}

pub on_ok : {A E P Q : Type 0} (r : Result A E) → (P → Q) → OnOk r P → OnOk r Q
on_ok (Ok a) then p = then p
on_ok (Err e) then p = tt

pub on_both : {A E P Q R : Type 0} (r : Result A E) → (P → Q → R) → OnOk r P → OnOk r Q → OnOk r R
on_both (Ok a) then p q = then p q
on_both (Err e) then p q = tt

module _ {S P : Type 0} (identity : S → Option Book) (opening : S → List (ℕ × Kind)) (list : S → List Batch)
    (left : P → Option (List ℕ)) (Ran : Running) (kinds : List (ℕ × Kind)) where
  pub round_done : (book : List (ℕ × BookLine)) (from upto : ℕ) (first mid last : Standing)
      (slots some_slots all_slots : Slots) (held some_held told wrote : Option (List ℕ))
      (olds mids news : List (Worker S P)) → from ≤ upto
      → (row : ℕ × BookLine) × (slice_get book upto ≡ Some row) × (row.1 ≡ line.Round)
      → AreOthers (slice_range book from upto)
      → Ran (slice_range book from upto) first slots held mid some_slots some_held
      → Ran (slice_range book upto (upto + 1)) mid some_slots some_held last all_slots told
      → IsPrefix first.batches mid.batches → IsPrefix mid.batches last.batches
      → AllByRecursion (IsReady identity opening list left kinds first.batches) olds
      → AllZip (Worked identity opening list left stop.Marker) olds mids
      → AllZip (Settled identity opening list left last.batches) mids news
      → AllByRecursion (λ w. IsFine w.outcome) news
      → Appends told wrote (tables_text kinds last.batches (map (station_of left) news))
      → IsRoundOf Ran kinds (slice_range book from (upto + 1)) (stage first slots held (map (station_of left) olds))
      (stage last all_slots wrote (map (station_of left) news))
  round_done book from upto first mid last slots some_slots all_slots held some_held told wrote olds mids news
      le ends others ran ended grows grows_on ready worked settled fine text = record {
        before = slice_range book from upto;
        others = others;
        line = ends.0;
        ends = ends.2;
        parts = range_more book from upto ends.0 le ends.1;
        state = mid;
        slots = some_slots;
        held = some_held;
        ran = ran;
        told = told;
        ended = subst (λ lines. Ran lines mid some_slots some_held last all_slots told) (range_one book upto ends.0 ends.1) ended;
        worked = all_worked identity opening list left stop.Marker kinds first.batches last.batches olds mids news worked settled
            (prefix_trans first.batches mid.batches last.batches grows grows_on) ready fine;
        wrote = text;
      }

  -- where the workers were told by a control that stands so
  pub round_then : (book : List (ℕ × BookLine)) (from upto : ℕ) (first mid last new : Standing)
      (slots some_slots all_slots : Slots) (held some_held told wrote : Option (List ℕ))
      (olds mids news : List (Worker S P)) → from ≤ upto
      → (row : ℕ × BookLine) × (slice_get book upto ≡ Some row) × (row.1 ≡ line.Round)
      → AreOthers (slice_range book from upto)
      → Ran (slice_range book from upto) first slots held mid some_slots some_held
      → Ran (slice_range book upto (upto + 1)) mid some_slots some_held last all_slots told
      → IsPrefix first.batches mid.batches → IsPrefix mid.batches last.batches → new ≡ last
      → AllByRecursion (IsReady identity opening list left kinds first.batches) olds
      → AllZip (Worked identity opening list left stop.Marker) olds mids
      → AllZip (Settled identity opening list left last.batches) mids news
      → AllByRecursion (λ w. IsFine w.outcome) news
      → Appends told wrote (tables_text kinds new.batches (map (station_of left) news))
      → IsRoundOf Ran kinds (slice_range book from (upto + 1)) (stage first slots held (map (station_of left) olds))
      (stage new all_slots wrote (map (station_of left) news))
  round_then book from upto first mid last new slots some_slots all_slots held some_held told wrote olds mids news
      le ends others ran ended grows grows_on same ready worked settled fine text =
      subst
      (λ s. IsRoundOf Ran kinds (slice_range book from (upto + 1)) (stage first slots held (map (station_of left) olds))
      (stage s all_slots wrote (map (station_of left) news)))
      (sym same)
      (round_done book from upto first mid last slots some_slots all_slots held some_held told wrote olds mids news le ends
      others ran ended grows grows_on ready worked settled fine
      (subst (λ s. Appends told wrote (tables_text kinds s.batches (map (station_of left) news))) same text))

  pub last_done : (lines : List (ℕ × BookLine)) (first last : Standing) (slots all_slots : Slots)
      (held told some wrote : Option (List ℕ)) (olds tolds mids news : List (Worker S P)) → AreOthers lines
      → Ran lines first slots held last all_slots told
      → AllByRecursion (IsReady identity opening list left kinds first.batches) olds
      → AllZip (Settled identity opening list left last.batches) olds tolds
      → AllZip (Worked identity opening list left stop.End) tolds mids
      → AllZip (Settled identity opening list left last.batches) mids news
      → AllByRecursion (λ w. IsFine w.outcome) news
      → Appends told some (tables_text kinds last.batches (map (station_of left) news))
      → Appends some wrote (done_line (length last.batches) (packet_count (map (station_of left) news)))
      → IsLastOf Ran kinds lines (stage first slots held (map (station_of left) olds))
      (stage last all_slots wrote (map (station_of left) news))
  last_done lines first last slots all_slots held told some wrote olds tolds mids news
      others ran ready first_told worked settled fine rows text = record {
        others = others;
        told = told;
        ran = ran;
        worked = all_last identity opening list left kinds first.batches last.batches olds tolds mids news first_told worked
            settled ready fine;
        wrote = Appends-append told some wrote (tables_text kinds last.batches (map (station_of left) news))
            (done_line (length last.batches) (packet_count (map (station_of left) news))) rows text;
      }

  -- where the workers were told twice by a control that stands so
  pub last_then : (lines : List (ℕ × BookLine)) (first last kept new : Standing) (slots all_slots : Slots)
      (held told some wrote : Option (List ℕ)) (olds tolds mids news : List (Worker S P)) → AreOthers lines
      → Ran lines first slots held last all_slots told → kept ≡ last → new ≡ kept
      → AllByRecursion (IsReady identity opening list left kinds first.batches) olds
      → AllZip (Settled identity opening list left last.batches) olds tolds
      → AllZip (Worked identity opening list left stop.End) tolds mids
      → AllZip (Settled identity opening list left kept.batches) mids news
      → AllByRecursion (λ w. IsFine w.outcome) news
      → Appends told some (tables_text kinds new.batches (map (station_of left) news))
      → Appends some wrote (done_line (length new.batches) (packet_count (map (station_of left) news)))
      → IsLastOf Ran kinds lines (stage first slots held (map (station_of left) olds))
      (stage new all_slots wrote (map (station_of left) news))
  last_then lines first last kept new slots all_slots held told some wrote olds tolds mids news
      others ran same same_on ready first_told worked settled fine rows text =
      let whole : new ≡ last = same_on ∙ same in
      subst
      (λ s. IsLastOf Ran kinds lines (stage first slots held (map (station_of left) olds))
      (stage s all_slots wrote (map (station_of left) news)))
      (sym whole)
      (last_done lines first last slots all_slots held told some wrote olds tolds mids news others ran ready first_told worked
      (subst (λ s. AllZip (Settled identity opening list left s.batches) mids news) same settled) fine
      (subst (λ s. Appends told some (tables_text kinds s.batches (map (station_of left) news))) whole rows)
      (subst (λ s. Appends some wrote (done_line (length s.batches) (packet_count (map (station_of left) news)))) whole text))
