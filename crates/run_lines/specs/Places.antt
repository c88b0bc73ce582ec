-- How far a run has come, and where a step leads from there. Our own choice.
use Rattle.std.specs.Prelude.{ℕ, ◌+◌, min, nat_lt, Bool, true, false, ◌||◌, List, [], ◌∷◌, ◌++◌, length, map, get_or}
use Rattle.std.specs.Prelude.{slice_get, slice_set, Option, Some, None}
use Rattle.urpf_base.specs.declared.sessions.SessionConfig.{SessionConfig}
use Rattle.router_config.specs.declared.edits.Edit.{Edit}
use Rattle.control_core.specs.Controls.{first_mark}
use Rattle.control_core.specs.Worlds.{Position}
use Rattle.run_lines.specs.Inputs.{Input, total}
use Rattle.run_lines.specs.Steps.{Step, pull, publish, round, check, change, summary}

-- how far it has come with a session: the items taken, and whether the end of its feed was met
pub record Reached : Type 0 where
  pub taken : ℕ
  pub ended : Bool

-- before any pull
abbrev pub not_begun : Reached
not_begun = record { taken = 0; ended = false }

-- a pull takes so many items, or all; it meets the end where it asks past the last
abbrev pub pulled : ℕ → Option ℕ → Reached → Reached
pulled all None at = record { taken = all; ended = true }
pulled all (Some count) at =
    record { taken = min (at.taken + count) all; ended = at.ended || nat_lt all (at.taken + count) }

-- the same, where the session may not be there
abbrev pub pulled_of : Option Input → Option ℕ → Reached → Reached
pulled_of None count at = at
pulled_of (Some input) count at = pulled (total input) count at

-- how far a run has come: with each session, its edits, how many rounds are ended, and its last mark
pub record Place : Type 0 where
  pub sessions : List Reached
  pub edits : List Edit
  pub rounds : ℕ
  pub mark : Position

-- at the opening, which is publication 0
abbrev pub opening : List SessionConfig → Place
opening sessions =
    record { sessions = map (λ s. not_begun) sessions; edits = []; rounds = 0; mark = first_mark sessions }

-- how far it has come with this session
abbrev pub reached_at : Place → ℕ → Reached
reached_at place session = get_or place.sessions session not_begun

-- how many items each session took
abbrev pub items_at : Place → List ℕ
items_at place = map (λ at. at.taken) place.sessions

-- a mark of this number that is made here
abbrev pub mark_at : Place → ℕ → Position
mark_at place number = record { number = number; edits = length place.edits; items = items_at place }

-- the place after one step
abbrev pub next_place : List Input → Step → Place → Place
next_place inputs (pull session count) place = record {
  sessions =
      slice_set place.sessions session (pulled_of (slice_get inputs session) count (reached_at place session));
  edits = place.edits;
  rounds = place.rounds;
  mark = place.mark;
}
next_place inputs publish place = record {
  sessions = place.sessions;
  edits = place.edits;
  rounds = place.rounds;
  mark = mark_at place (place.mark.number + 1);
}
next_place inputs round place =
    record { sessions = place.sessions; edits = place.edits; rounds = place.rounds + 1; mark = place.mark }
next_place inputs (check iface addr) place = place
next_place inputs (change edit) place = record {
  sessions = place.sessions;
  edits = place.edits ++ edit ∷ [];
  rounds = place.rounds;
  mark = place.mark;
}
next_place inputs summary place = place

-- the place after some steps
abbrev pub place_after : List Input → List Step → Place → Place
place_after inputs [] place = place
place_after inputs (step ∷ steps) place = place_after inputs steps (next_place inputs step place)
