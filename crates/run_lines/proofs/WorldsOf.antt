-- The worlds of a run, out of those of its control.
use Rattle.std.proofs.Common.{◌≡◌, ℕ, List, length, ap, subst, ◌∙◌}
use Rattle.std.specs.Prelude.{◌↔◌}
use Rattle.std.specs.List.{AllZip}
use Rattle.urpf_base.specs.Lists.{Has}
use Rattle.urpf_base.specs.declared.kinds.Kind.{Kind}
use Rattle.rpf_plain.specs.World.{World}
use Rattle.control_core.specs.Controls.{AreAtMost, items_of, position_of}
use Rattle.control_core.specs.States.{ControlState}
use Rattle.control_core.specs.Worlds.{IsWorldAt, Position, last_number}
use Rattle.control_core.proofs.LastMarks.{last_number-push}
use Rattle.control_core.proofs.Shown.{one_last}
use Rattle.run_lines.specs.Inputs.{Run, opening_of}
use Rattle.run_lines.specs.Places.{Place, mark_at}
use Rattle.run_lines.specs.RunText.{IsWorldOf}
use Rattle.run_lines.specs.Runs.{IsAt}
use Rattle.run_lines.specs.Slots.{Slot}
use Rattle.run_lines.proofs.SessionsAt.{IsFront, fronts, items_same, rows_whole}

-- the courses so far are fronts of the whole ones
pub fronts_at : (run : Run) (place : Place) (control : ControlState) (rounds : ℕ) (slots : List Slot)
    → (s : IsAt run place control rounds slots) → AllZip IsFront s.courses run.inputs
fronts_at run place control rounds slots s =
    fronts run.config.sessions run.inputs place.sessions s.courses control.peers slots s.whole s.stands.sessions
    s.sessions s.stands.stand

-- a mark that is made now
pub mark_same : (run : Run) (place : Place) (control : ControlState) (rounds : ℕ) (slots : List Slot)
    (number : ℕ) → IsAt run place control rounds slots → position_of control number ≡ mark_at place number
mark_same run place control rounds slots number s =
    ap (λ (n : ℕ). record { number = number; edits = n; items = items_of control.peers }) s.stands.counted
    ∙ ap (λ (ns : List ℕ). record { number = number; edits = length place.edits; items = ns })
    (items_same run.inputs place.sessions s.courses control.peers slots s.sessions s.stands.stand)

-- a world over what the sessions took so far is one over the whole sessions
pub world_whole : (run : Run) (place : Place) (control : ControlState) (rounds : ℕ)
    (slots : List Slot) (mark : Position) (kinds : List (ℕ × Kind)) (world : World)
    → (s : IsAt run place control rounds slots) → AreAtMost mark.items (items_of control.peers)
    → IsWorldAt (opening_of run) place.edits s.courses mark kinds world → IsWorldOf run place mark kinds world
world_whole run place control rounds slots mark kinds world s most w = record {
  edited = w.edited;
  roles = w.roles;
  pairs = w.pairs;
  rows = λ row. subst (λ (T : Type 0). Has world.rows row ↔ T)
      (rows_whole s.courses run.inputs control.peers mark.items row
      (fronts_at run place control rounds slots s) s.stands.stand most) (w.rows row);
}

-- the number of the last mark of the control is that of the place
pub number_at : (run : Run) (place : Place) (control : ControlState) (rounds : ℕ) (slots : List Slot)
    → IsAt run place control rounds slots → last_number control.marks ≡ place.mark.number
number_at run place control rounds slots s =
    ap last_number s.marks ∙ last_number-push s.earlier place.mark

-- the last mark has no more items than the sessions took
pub mark_reached : (run : Run) (place : Place) (control : ControlState) (rounds : ℕ)
    (slots : List Slot) → IsAt run place control rounds slots
    → AreAtMost place.mark.items (items_of control.peers)
mark_reached run place control rounds slots s =
    subst (λ (mark : Position). AreAtMost mark.items (items_of control.peers))
    (one_last control.marks s.stands.earlier s.earlier s.stands.last place.mark s.stands.marks s.marks)
    s.stands.reached.items
