-- What lines that were run come to, out of what is said of the run of them.
use Rattle.std.proofs.Common.{◌≡◌, ℕ, ◌≤◌, List, ◌++◌, length, map, Option, Some, Result, Ok, Err, sym, ap, ◌∙◌}
use Rattle.std.specs.Prelude.{IfErr, OnOk}
use mathlib.Core.List.{IsPrefix}
use Rattle.urpf_base.specs.declared.kinds.Kind.{Kind}
use Rattle.cover_table.specs.declared.batch.Batch.{Batch}
use Rattle.router_config.specs.Settings.{Settings}
use Rattle.runbook.specs.declared.lines.BookLine.{BookLine}
use Rattle.control_core.specs.Worlds.{last_number}
use Rattle.control_core.specs.declared.limits.RunFault.{RunFault}
use Rattle.control_core.proofs.Places.{some_one}
use Rattle.run_lines.specs.Inputs.{Run}
use Rattle.run_lines.specs.Places.{Place, place_after}
use Rattle.run_lines.specs.Publications.{Grows, HandedOn, IsInStep}
use Rattle.run_lines.specs.Runs.{IsAt, RanSteps, Serves, Shows}
use Rattle.live_rounds.specs.Parts.{IsSound, Slots, Standing}
use Rattle.live_control.specs.Standings.{IsReady, IsWhole, Ran, Stopped, steps_in_lines}

-- what was published is only added to
pub grown : (old new : List Batch) → Grows (Some old) (Some new) → IsPrefix old new
grown old new grows = (grows.0, sym (some_one new (old ++ grows.0) grows.1))

module _ (lines : List (ℕ × BookLine)) (old new : Standing) (old_slots new_slots : Slots)
    (old_held new_held : Option (List ℕ)) where
  -- lines that were run to their end
  pub led : (result : Result (Unit {0}) RunFault) → new.kinds ≡ old.kinds
      → length new.control.peers ≡ length old.control.peers
      → ((run : Run) (place : Place) → IsAt run place old.control old.rounds old_slots
      → Shows run place old.control old.shown
      → RanSteps run place (steps_in_lines old lines) result new.control new.rounds new_slots old_held new_held)
      → ((run : Run) (place : Place) → IsAt run place old.control old.rounds old_slots
      → Shows run place old.control old.shown
      → OnOk result (Shows run (place_after run.inputs (steps_in_lines old lines) place) new.control new.shown))
      → ((run : Run) (place : Place) → IsAt run place old.control old.rounds old_slots
      → Shows run place old.control old.shown
      → HandedOn run place (steps_in_lines old lines) result (Some old.batches) (Some new.batches))
      → OnOk result (Ran lines old old_slots old_held new new_slots new_held)
  led (Ok done) kinds sessions ran shown batches = record {
    kinds = kinds;
    sessions = sessions;
    leads = λ run place at shows.
        let text = ran run place at shows in
        let handed = batches run place at shows in
        record {
          wrote = text.0;
          at = text.1;
          shows = shown run place at shows;
          batches = handed.0;
          are = handed.1;
          published = some_one new.batches (old.batches ++ handed.0) handed.2;
        };
  }
  led (Err fault) kinds sessions ran shown batches = tt

  -- lines that a fault stopped
  pub halted : (result : Result (Unit {0}) RunFault) → new.kinds ≡ old.kinds
      → ((run : Run) (place : Place) → IsAt run place old.control old.rounds old_slots
      → Shows run place old.control old.shown
      → RanSteps run place (steps_in_lines old lines) result new.control new.rounds new_slots old_held new_held)
      → ((run : Run) (place : Place) → IsAt run place old.control old.rounds old_slots
      → Shows run place old.control old.shown
      → HandedOn run place (steps_in_lines old lines) result (Some old.batches) (Some new.batches))
      → IfErr result (λ fault. Stopped fault lines old old_slots old_held new new_slots new_held)
  halted (Ok done) kinds ran batches = tt
  halted (Err fault) kinds ran batches = record { kinds = kinds; ran = ran; published = batches }

-- the lines behind those that were run may be run
pub ready_next : (book : List (ℕ × BookLine)) (from upto feeds next : ℕ) (result : Result (Unit {0}) RunFault)
    (kinds : List (ℕ × Kind)) (old new : Standing) → IsReady book from feeds old → next ≡ feeds → new.kinds ≡ kinds
    → length new.control.peers ≡ length old.control.peers
    → ((config : Settings) → Serves config old.control → Serves config new.control) → new.control.edits ≤ upto
    → last_number new.control.marks ≤ upto → new.rounds ≤ upto → OnOk result (IsInStep new.control new.shown)
    → OnOk result (IsWhole kinds (record { shown = new.shown; batches = new.batches }))
    → OnOk result (IsReady book upto next new)
ready_next book from upto feeds next (Ok done) kinds old new ready many same peers serves edits number rounds step whole =
    record {
      slots = many ∙ ready.slots ∙ sym peers;
      config = ready.config;
      serves = serves ready.config ready.serves;
      configured = ready.configured;
      few = ready.few;
      edits = edits;
      number = number;
      rounds = rounds;
      in_step = step;
      numbered = whole.number;
      names = whole.names ∙ ap (map (λ (row : ℕ × Kind). row.0)) (sym same);
    }
ready_next book from upto feeds next (Err fault) kinds old new ready many same peers serves edits number rounds step whole = tt

-- what is shown is what all batches leave
pub sound_next : (result : Result (Unit {0}) RunFault) (kinds : List (ℕ × Kind)) (new : Standing)
    → OnOk result (IsWhole kinds (record { shown = new.shown; batches = new.batches })) → OnOk result (IsSound kinds new)
sound_next (Ok done) kinds new whole = whole.shown
sound_next (Err fault) kinds new whole = tt
