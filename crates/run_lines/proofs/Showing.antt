-- What a snapshot shows while the steps of a run are taken.
use Rattle.std.proofs.Common.{◌≡◌, ℕ, zero, suc, ◌+◌, List, [], ◌∷◌, Option, Some, None, Result, Ok, Err, refl, sym, ap, subst, ◌∙◌, take}
use Rattle.std.specs.Prelude.{OnOk, slice_get}
use Rattle.cover_table.specs.Snapshots.{Publication}
use Rattle.router_config.specs.declared.edits.Edit.{Edit}
use Rattle.runbook.specs.declared.lines.BookLine.{BookLine}
use Rattle.runbook.specs.declared.lines.BookLine.TheVariants.{Pull}
use Rattle.control_core.specs.Controls.{IsShown, KeepsPublished}
use Rattle.control_core.specs.States.{ControlState}
use Rattle.control_core.proofs.Shown.{shown_kept}
use Rattle.run_lines.specs.Inputs.{Input, Run, opening_of}
use Rattle.run_lines.specs.Places.{Place, place_after}
use Rattle.run_lines.specs.Runs.{Shows}
use Rattle.run_lines.specs.Steps.{Step, lines_in, pull, pulls_of, steps_in, steps_of}
use Rattle.run_lines.proofs.Composing.{place_after-append}
use Rattle.run_lines.proofs.LinesTaken.{steps_more}

-- what holds anyway holds where a call is done
pub on_ok_always : {T E P : Type 0} (r : Result T E) → P → OnOk r P
on_ok_always (Ok done) holds = holds
on_ok_always (Err fault) holds = tt

pub keeps_self : (control : ControlState) → KeepsPublished control control
keeps_self control = record { marks = refl; base = refl; limits = refl }

pub keeps_then : (old mid new : ControlState) → KeepsPublished old mid → KeepsPublished mid new → KeepsPublished old new
keeps_then old mid new first second = record {
  marks = second.marks ∙ first.marks;
  base = second.base ∙ first.base;
  limits = second.limits ∙ first.limits;
}

-- a pull makes no edit
pulls_edits : (inputs : List Input) (n : ℕ) (count : Option ℕ) (place : Place)
    → (place_after inputs (pulls_of n count) place).edits ≡ place.edits
pulls_edits inputs zero count place = refl
pulls_edits inputs (suc n) count place =
    ap (λ (p : Place). p.edits) (place_after-append inputs (pulls_of n count) (pull n count ∷ []) place)
    ∙ pulls_edits inputs n count place

line_edits : (inputs : List Input) (sessions : ℕ) (session count : Option ℕ) (place : Place)
    → (place_after inputs (steps_in sessions (Pull session count)) place).edits ≡ place.edits
line_edits inputs sessions None count place = pulls_edits inputs sessions count place
line_edits inputs sessions (Some session) count place = refl

-- behind pulls the same mark is shown
pub shows_pulled : (run : Run) (place : Place) (sessions : ℕ) (session count : Option ℕ) (old new : ControlState)
    (shown : Publication) → KeepsPublished old new → Shows run place old shown
    → Shows run (place_after run.inputs (steps_in sessions (Pull session count)) place) new shown
shows_pulled run place sessions session count old new shown keeps shows =
    subst (λ (edits : List Edit). IsShown (opening_of run) edits new shown)
    (sym (line_edits run.inputs sessions session count place))
    (shown_kept (opening_of run) place.edits old new shown keeps shows)

-- what is shown behind a line is shown behind all lines up to it
pub shows_next : (run : Run) (place : Place) (sessions : ℕ) (rows : List (ℕ × BookLine)) (k : ℕ) (row : ℕ × BookLine)
    (control : ControlState) (shown : Publication) → slice_get rows k ≡ Some row
    → Shows run (place_after run.inputs (steps_in sessions row.1)
    (place_after run.inputs (steps_of sessions (take k (lines_in rows))) place)) control shown
    → Shows run (place_after run.inputs (steps_of sessions (take (k + 1) (lines_in rows))) place) control shown
shows_next run place sessions rows k row control shown is =
    subst (λ (p : Place). Shows run p control shown)
    (sym (place_after-append run.inputs (steps_of sessions (take k (lines_in rows))) (steps_in sessions row.1) place)
    ∙ ap (λ (ss : List Step). place_after run.inputs ss place) (sym (steps_more sessions rows k row is)))
