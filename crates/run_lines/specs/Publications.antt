-- Which batches the publications of a run hand on. Our own choice, over the source sets (RFC 8704, section 3) of the
-- routes that the sessions leave (RFC 4271, section 3.2).
use Rattle.std.specs.Prelude.{◌≡◌, ℕ, ◌+◌, List, [], ◌∷◌, ◌++◌, map, Option, Some, None, Result, Ok, Err}
use Rattle.urpf_base.specs.declared.kinds.Kind.{Kind}
use Rattle.cover_table.specs.Snapshots.{Publication}
use Rattle.cover_table.specs.declared.batch.Batch.{Batch}
use Rattle.rpf_plain.specs.Cells.{IsDifference}
use Rattle.rpf_plain.specs.World.{World}
use Rattle.control_core.specs.States.{ControlState}
use Rattle.control_core.specs.Worlds.{last_number}
use Rattle.control_core.specs.declared.limits.RunFault.{RunFault}
use Rattle.run_lines.specs.Inputs.{Run}
use Rattle.run_lines.specs.Places.{Place, mark_at, next_place}
use Rattle.run_lines.specs.RunText.{IsWorldOf}
use Rattle.run_lines.specs.Steps.{Step, pull, publish, round, check, change, summary}

-- the batch of a publication at a place: it has the next number, the interfaces with their kinds after the edits so far,
-- and the cells that differ between the worlds of the last mark and of now
pub record IsBatchAt (run : Run) (place : Place) (batch : Batch) : Type 0 where
  pub number : batch.number ≡ place.mark.number + 1
  pub old_kinds : List (ℕ × Kind)
  pub old : World
  pub was : IsWorldOf run place place.mark old_kinds old
  pub new : World
  pub is : IsWorldOf run place (mark_at place (place.mark.number + 1)) batch.kinds new
  pub difference : IsDifference old new batch.changes

-- the batches that one step at a place hands on: that of a publication, and none of any other step
abbrev pub HandsOn : Run → Place → Step → List Batch → Type 0
HandsOn run place (pull session count) batches = batches ≡ []
HandsOn run place publish batches = (batch : Batch) × (batches ≡ batch ∷ []) × IsBatchAt run place batch
HandsOn run place round batches = batches ≡ []
HandsOn run place (check iface addr) batches = batches ≡ []
HandsOn run place (change edit) batches = batches ≡ []
HandsOn run place summary batches = batches ≡ []

-- the batches that steps hand on, one after the other, from a place on
abbrev pub AreBatches : Run → Place → List Step → List Batch → Type 0
AreBatches run place [] batches = batches ≡ []
AreBatches run place (step ∷ steps) batches =
    (own : List Batch) × (later : List Batch) × (batches ≡ own ++ later) × HandsOn run place step own
    × AreBatches run (next_place run.inputs step place) steps later

-- these batches were added to those that were handed on before, where that is told
abbrev pub Adds : Option (List Batch) → Option (List Batch) → List Batch → Type 0
Adds None new batches = new ≡ None
Adds (Some list) new batches = new ≡ Some (list ++ batches)

-- some batches were added
abbrev pub Grows : Option (List Batch) → Option (List Batch) → Type 0
Grows old new = (batches : List Batch) × Adds old new batches

-- what steps handed on: the batches of all of them, or where they stopped those of some first ones
abbrev pub HandedOn : Run → Place → List Step → Result (Unit {0}) RunFault → Option (List Batch)
    → Option (List Batch) → Type 0
HandedOn run place steps (Ok done) old new =
    (batches : List Batch) × AreBatches run place steps batches × Adds old new batches
HandedOn run place steps (Err fault) old new =
    (first : List Step) × (others : List Step) × (steps ≡ first ++ others) × (batches : List Batch)
    × AreBatches run place first batches × Adds old new batches

-- the batch may follow the publication: it has the next number, and names the same interfaces
pub record Follows (shown : Publication) (batch : Batch) : Type 0 where
  pub number : batch.number ≡ shown.number + 1
  pub names : map (λ row. row.0) batch.kinds ≡ map (λ row. row.0) shown.kinds

-- the publication is in step with a control: it has the number of the last mark, and names the same interfaces
pub record IsInStep (control : ControlState) (shown : Publication) : Type 0 where
  pub number : shown.number ≡ last_number control.marks
  pub names : map (λ row. row.0) control.kinds ≡ map (λ row. row.0) shown.kinds
