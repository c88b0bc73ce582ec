-- What lines of a runbook do to the control of a live run: what they write, and which batches they publish. Our own
-- choice, over the places of a run.
use Rattle.std.specs.Prelude.{◌≡◌, ℕ, ◌^◌, ◌<◌, ◌≤◌, List, ◌++◌, length, map, Option, Some, Err}
use Rattle.urpf_base.specs.declared.kinds.Kind.{Kind}
use Rattle.cover_table.specs.Snapshots.{Publication, fold}
use Rattle.cover_table.specs.declared.batch.Batch.{Batch}
use Rattle.router_config.specs.Settings.{Settings}
use Rattle.runbook.specs.Book.{AreConfiguredFor}
use Rattle.runbook.specs.declared.lines.BookLine.{BookLine}
use Rattle.control_core.specs.Worlds.{last_number}
use Rattle.control_core.specs.declared.limits.RunFault.{RunFault}
use Rattle.run_lines.specs.Inputs.{Run}
use Rattle.run_lines.specs.Places.{Place, place_after}
use Rattle.run_lines.specs.Publications.{AreBatches, HandedOn, IsInStep}
use Rattle.run_lines.specs.Runs.{AreTexts, IsAt, RanSteps, Serves, Shows, TookAll}
use Rattle.run_lines.specs.Steps.{Step, lines_in, steps_of}
use Rattle.live_rounds.specs.Parts.{Slots, Standing}

-- what was published: what a snapshot of its own shows of it, and the batches
pub record PublicationState : Type 0 where
  pub shown : Publication
  pub batches : List Batch

-- the snapshot shows what all batches leave of these interfaces, which each of them names
pub record IsWhole (kinds : List (ℕ × Kind)) (state : PublicationState) : Type 0 where
  pub shown : state.shown ≡ fold kinds state.batches
  pub number : state.shown.number ≡ length state.batches
  pub names : map (λ row. row.0) state.shown.kinds ≡ map (λ row. row.0) kinds

-- the lines of a book from this one on may be run over so many feeds: its sessions and interfaces are configured, the
-- control made no more edits, marks and rounds than there are lines before, and the snapshot shows the last batch
pub record IsReady (book : List (ℕ × BookLine)) (from feeds : ℕ) (state : Standing) : Type 0 where
  pub slots : feeds ≡ length state.control.peers
  pub config : Settings
  pub serves : Serves config state.control
  pub configured : AreConfiguredFor config book
  pub few : length book < 2 ^ 32
  pub edits : state.control.edits ≤ from
  pub number : last_number state.control.marks ≤ from
  pub rounds : state.rounds ≤ from
  pub in_step : IsInStep state.control state.shown
  pub numbered : state.shown.number ≡ length state.batches
  pub names : map (λ row. row.0) state.shown.kinds ≡ map (λ row. row.0) state.kinds

-- the steps of lines, where there are as many sessions as the control has
abbrev pub steps_in_lines : Standing → List (ℕ × BookLine) → List Step
steps_in_lines state lines = steps_of (length state.control.peers) (lines_in lines)

-- what steps come to from a place on: their texts are taken, the run is at the place that they lead to, the snapshot
-- shows the last mark there, and the batches of their publications are published, one after the other
pub record Leads (run : Run) (place : Place) (steps : List Step) (old : Standing) (old_held : Option (List ℕ))
    (new : Standing) (new_slots : Slots) (new_held : Option (List ℕ)) : Type 0 where
  pub wrote : TookAll (AreTexts run place steps) old_held new_held
  pub at : IsAt run (place_after run.inputs steps place) new.control new.rounds new_slots
  pub shows : Shows run (place_after run.inputs steps place) new.control new.shown
  pub batches : List Batch
  pub are : AreBatches run place steps batches
  pub published : new.batches ≡ old.batches ++ batches

-- what lines come to that were run to their end, from each place of a run where the control may stand
pub record Ran (lines : List (ℕ × BookLine)) (old : Standing) (old_slots : Slots) (old_held : Option (List ℕ))
    (new : Standing) (new_slots : Slots) (new_held : Option (List ℕ)) : Type 0 where
  pub kinds : new.kinds ≡ old.kinds
  pub sessions : length new.control.peers ≡ length old.control.peers
  pub leads : (run : Run) (place : Place) → IsAt run place old.control old.rounds old_slots
      → Shows run place old.control old.shown
      → Leads run place (steps_in_lines old lines) old old_held new new_slots new_held

-- what lines come to that a fault stopped, from each such place: a front of their text is taken, with all that was known
-- at a fault of a session, and the batches of some first steps are published
pub record Stopped (fault : RunFault) (lines : List (ℕ × BookLine)) (old : Standing) (old_slots : Slots)
    (old_held : Option (List ℕ)) (new : Standing) (new_slots : Slots) (new_held : Option (List ℕ)) : Type 0 where
  pub kinds : new.kinds ≡ old.kinds
  pub ran : (run : Run) (place : Place) → IsAt run place old.control old.rounds old_slots
      → Shows run place old.control old.shown
      → RanSteps run place (steps_in_lines old lines) (Err fault) new.control new.rounds new_slots old_held new_held
  pub published : (run : Run) (place : Place) → IsAt run place old.control old.rounds old_slots
      → Shows run place old.control old.shown
      → HandedOn run place (steps_in_lines old lines) (Err fault) (Some old.batches) (Some new.batches)
