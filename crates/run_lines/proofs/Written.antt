-- A line of output that a step offered.
use Rattle.std.proofs.Common.{◌≡◌, ℕ, ◌≤◌, List, [], length, take, drop, Option, Result, Ok, Err, sym, subst}
use Rattle.std.specs.Prelude.{OnOk, OnErr, IfErr}
use Rattle.std.specs.Io.KnownBytes.{Appends}
use Rattle.std.proofs.lemmas.List.{take-append-drop}
use Rattle.control_core.specs.States.{ControlState}
use Rattle.control_core.specs.declared.limits.RunFault.{RunFault}
use Rattle.control_core.specs.declared.limits.RunFault.TheVariants.{OutOfMemory, WriteFault}
use Rattle.control_core.proofs.PullLaws.{appends_none}
use Rattle.run_lines.specs.Inputs.{Run}
use Rattle.run_lines.specs.Limits.{PullFillsItems, PullFillsOctets, StepFills}
use Rattle.run_lines.specs.Places.{Place, next_place}
use Rattle.run_lines.specs.RunText.{Gives}
use Rattle.run_lines.specs.Runs.{IsAt, RanStep, Reaches, StepKnows, TookFront}
use Rattle.run_lines.specs.Slots.{AreEmptied, Slot}
use Rattle.run_lines.specs.Steps.{Step}
use Rattle.run_lines.proofs.Emptied.{emptied_at, emptied_between}
use Rattle.run_lines.proofs.SomeText.{some_gives}

-- a front of a text that was taken so far
pub front_taken : (IsText : List ℕ → Type 0) (text : List ℕ) (n : ℕ) (old new : Option (List ℕ)) → IsText text
    → Appends old new (take n text) → TookFront IsText old new
front_taken IsText text n old new is appended =
    record {
      front = take n text;
      more = drop n text;
      is = subst IsText (sym (take-append-drop n text)) is;
      appended = appended;
    }

pub front_none : (IsText : List ℕ → Type 0) (text : List ℕ) (held : Option (List ℕ)) → IsText text
    → TookFront IsText held held
front_none IsText text held is = record { front = []; more = text; is = is; appended = appends_none held }

-- a step whose line was offered
pub step_ran : (run : Run) (place : Place) (step : Step) (text : List ℕ) (result : Result (Unit {0}) RunFault)
    (control : ControlState) (rounds : ℕ) (slots : List Slot) (old new : Option (List ℕ))
    → Gives run place step text → AreEmptied place slots → IsAt run (next_place run.inputs step place) control rounds slots
    → OnOk result (Appends old new text) → OnErr result ((n : ℕ) × (n ≤ length text) × Appends old new (take n text))
    → IfErr result (λ fault. fault ≡ WriteFault)
    → RanStep run place step result control rounds slots old new
step_ran run place step text (Ok done) control rounds slots old new gives now next ok cut err =
    (record { text = text; is = gives; appended = ok }, next)
step_ran run place step text (Err fault) control rounds slots old new gives now next ok cut err = (
  front_taken (Gives run place step) text cut.0 old new gives cut.2,
  record {
    limit = subst (λ (f : RunFault). Reaches (λ s. StepFills PullFillsItems run place step s slots)
        (λ s. StepFills PullFillsOctets run place step s slots) f) (sym err) tt;
    emptied = emptied_between place (next_place run.inputs step place) slots now
        (emptied_at run (next_place run.inputs step place) control rounds slots next);
    knows = subst (λ (f : RunFault). StepKnows run place step slots f old new) (sym err) tt;
  },
)

-- a step that memory ran out for before anything was written
pub step_starved : (run : Run) (place : Place) (step : Step) (control : ControlState) (rounds : ℕ)
    (slots : List Slot) (held : Option (List ℕ)) → AreEmptied place slots
    → AreEmptied (next_place run.inputs step place) slots
    → RanStep run place step (Err OutOfMemory) control rounds slots held held
step_starved run place step control rounds slots held now next =
    let some = some_gives run place step in (
      front_none (Gives run place step) some.0 held some.1,
      record {
        limit = tt;
        emptied = emptied_between place (next_place run.inputs step place) slots now next;
        knows = tt;
      },
    )
