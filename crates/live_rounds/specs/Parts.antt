-- What contracts see of the control of a live run. Our own choice.
use Rattle.std.specs.Prelude.{◌≡◌, ℕ, List, map, Option}
use Rattle.std.specs.Option.{option_map}
use Rattle.urpf_base.specs.declared.kinds.Kind.{Kind}
use Rattle.cover_table.specs.Snapshots.{Publication, fold}
use Rattle.cover_table.specs.declared.batch.Batch.{Batch}
use Rattle.feed_io.specs.Events.{Event}
use Rattle.runbook.specs.declared.lines.BookLine.{BookLine}
use Rattle.control_core.specs.States.{ControlState}

-- a control with all that it published: its sessions and marks, what its own snapshot shows, the batches, the interfaces
-- before the first of them, and how many rounds it ended
pub record Standing : Type 0 where
  pub control : ControlState
  pub shown : Publication
  pub batches : List Batch
  pub kinds : List (ℕ × Kind)
  pub rounds : ℕ

-- the snapshot shows what all batches leave
abbrev pub IsSound : List (ℕ × Kind) → Standing → Type 0
IsSound kinds state = state.shown ≡ fold kinds state.batches

-- what stands in the slots of feeds: nothing, or a feed that has this left
abbrev pub Slots : Type 0
Slots = List (Option (Option (List Event)))

abbrev pub slots_in : {F : Type 0} → (F → Option (List Event)) → List (Option F) → Slots
slots_in left feeds = map (option_map left) feeds

-- what lines of a runbook do: they lead from a control, the slots of its feeds and what a sink holds to others
abbrev pub Running : Type 1
Running = List (ℕ × BookLine) → Standing → Slots → Option (List ℕ) → Standing → Slots → Option (List ℕ) → Type 0
