-- A publication stays in step with a control.
use Rattle.std.proofs.Common.{◌≡◌, ℕ, ◌+◌, Bool, true, false, if◌then◌else◌, List, [], ◌∷◌, map, take}
use Rattle.std.proofs.Common.{refl, sym, ap, ◌∙◌}
use Rattle.urpf_base.specs.declared.kinds.Kind.{Kind}
use Rattle.cover_table.specs.Snapshots as snapshots
use Rattle.cover_table.specs.Snapshots.{Publication, step}
use Rattle.cover_table.specs.declared.batch.Batch.{Batch}
use Rattle.router_config.specs.Edits.{edited, edited_kind, is_of}
use Rattle.router_config.specs.declared.edits.Edit.{Edit}
use Rattle.control_core.specs.Controls.{IsOpened, KeepsPublished, Publishes, position_of}
use Rattle.control_core.specs.States.{ControlState}
use Rattle.control_core.specs.Worlds.{Opening, kinds_after, last_number}
use Rattle.control_core.specs.declared.limits.Limits.{Limits}
use Rattle.control_core.proofs.LastMarks.{last_number-push}
use Rattle.run_lines.specs.Publications.{Follows, IsInStep}

abbrev names : List (ℕ × Kind) → List ℕ
names kinds = map (λ row. row.0) kinds

either_named : (is : Bool) (row : ℕ × Kind) (kind : Kind) → (if is then (row.0, kind) else row).0 ≡ row.0
either_named true row kind = refl
either_named false row kind = refl

-- an edit leaves the names of the interfaces
pub edited_names : (edit : Edit) (rows : List (ℕ × Kind)) → map (λ row. row.0) (edited edit rows) ≡ map (λ row. row.0) rows
edited_names edit [] = refl
edited_names edit (row ∷ rows) =
    ap (λ (n : ℕ). n ∷ map (λ r. r.0) (edited edit rows))
    (either_named (is_of edit row.0) row (edited_kind edit row.1))
    ∙ ap (λ (ns : List ℕ). row.0 ∷ ns) (edited_names edit rows)

-- what there is before the first publication is in step with a control at its opening
pub opened_in_step : (opening : Opening) (limits : Limits) (control : ControlState) → IsOpened opening limits control
    → IsInStep control (snapshots.opening opening.settings.interfaces)
opened_in_step opening limits control opened = record {
  number = sym (ap last_number opened.marks);
  names = ap names
      (opened.stands.now.edited
      ∙ ap (λ (n : ℕ). kinds_after (take n []) opening.settings.interfaces) opened.stands.counted);
}

-- it stays so as long as there is no further mark, and the names stay
pub kept_in_step : (old new : ControlState) (shown : Publication) → KeepsPublished old new
    → map (λ row. row.0) new.kinds ≡ map (λ row. row.0) old.kinds → IsInStep old shown → IsInStep new shown
kept_in_step old new shown keeps same is = record {
  number = is.number ∙ ap last_number (sym keeps.marks);
  names = same ∙ is.names;
}

-- a publication is in step where it took the batch of the last mark over
pub published_in_step : (old new : ControlState) (batch : Batch) (shown : Publication) → Publishes old new batch
    → IsInStep new (step shown batch)
published_in_step old new batch shown publishes = record {
  number = sym
      (ap last_number publishes.marks ∙ last_number-push old.marks (position_of old batch.number));
  names = ap names (publishes.kept.kinds ∙ sym publishes.interfaces);
}

-- and may take that batch over where it was in step before
pub in_step_follows : (old new : ControlState) (batch : Batch) (shown : Publication) → Publishes old new batch
    → IsInStep old shown → Follows shown batch
in_step_follows old new batch shown publishes is = record {
  number = publishes.number ∙ ap (λ (n : ℕ). n + 1) (sym is.number);
  names = ap names publishes.interfaces ∙ is.names;
}
