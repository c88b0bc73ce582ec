-- A run at its opening.
use Rattle.std.proofs.Common.{◌≡◌, ℕ, ◌≤◌, false, true, List, [], ◌∷◌, length, map, take, refl}
use Rattle.std.proofs.Common.{sym, ap, subst, ◌∙◌, arith}
use Rattle.std.specs.List.{AllByRecursion, AllZip}
use Rattle.urpf_base.specs.declared.kinds.Kind.{Kind}
use Rattle.urpf_base.specs.declared.sessions.SessionConfig.{SessionConfig}
use Rattle.router_config.specs.Configured.{IsConfigured}
use Rattle.control_core.specs.Controls.{AllStand, IsOpened}
use Rattle.control_core.specs.Controls as controls
use Rattle.control_core.specs.States.{ControlState, PeerState}
use Rattle.control_core.specs.Worlds.{Opening, kinds_after, last_number}
use Rattle.run_lines.specs.Inputs.{Input, IsInput, IsRun, Run, opening_of}
use Rattle.run_lines.specs.Places.{not_begun, opening}
use Rattle.run_lines.specs.Runs.{AreSessionsAt, IsAt, Serves, run_limits}
use Rattle.run_lines.specs.Slots.{Slot, filled, told_by}

-- each session is at its beginning
sessions_opened : (configs : List SessionConfig) (inputs : List Input) (peers : List PeerState)
    → AllZip IsInput configs inputs → AllStand (map controls.not_begun configs) peers
    → AllByRecursion (λ (p : PeerState). p.ended ≡ false) peers
    → AreSessionsAt inputs (map (λ (s : SessionConfig). not_begun) configs) (map controls.not_begun configs) peers
    (map (λ (i : Input). filled i.course.events) inputs)
sessions_opened [] [] [] is stand unmet = tt
sessions_opened [] [] (p ∷ peers) is stand unmet = absurd stand
sessions_opened [] (i ∷ inputs) peers is stand unmet = absurd is
sessions_opened (k ∷ configs) [] peers is stand unmet = absurd is
sessions_opened (k ∷ configs) (i ∷ inputs) [] is stand unmet = absurd stand
sessions_opened (k ∷ configs) (i ∷ inputs) (p ∷ peers) is stand unmet = (
  record {
    rest = i.course.events;
    left_is = refl;
    emptied = (λ is. cc, λ is. let clash : false ≡ true = is in cc);
    same = refl;
    taken = refl;
    ended = unmet.0;
    all_taken = λ met. cc;
    within = omega arith;
    few_items = λ met. let clash : false ≡ true = met in cc;
    few_octets = λ met. let clash : false ≡ true = met in cc;
  },
  sessions_opened configs inputs peers is.1 stand.2 unmet.1,
)

-- a run at its opening, where its control is new and its feeds tell all that they have
pub opened_at : (run : Run) (control : ControlState) (slots : List Slot) → IsRun run
    → IsOpened (opening_of run) run_limits control → slots ≡ told_by run
    → IsAt run (opening run.config.sessions) control 0 slots
opened_at run control slots is opened told = record {
  whole = is;
  courses = map controls.not_begun run.config.sessions;
  stands = opened.stands;
  sessions = subst (λ (ls : List Slot). AreSessionsAt run.inputs
      (map (λ (s : SessionConfig). not_begun) run.config.sessions) (map controls.not_begun run.config.sessions)
      control.peers ls) (sym told)
      (sessions_opened run.config.sessions run.inputs control.peers is opened.stands.stand opened.unmet);
  earlier = [];
  marks = opened.marks;
  limits = opened.limits_are;
  able = opened.exhausted;
  ended = refl;
}

pub as_many : (configs : List SessionConfig) (peers : List PeerState) → AllStand (map controls.not_begun configs) peers
    → length peers ≡ length configs
as_many [] [] stand = refl
as_many [] (p ∷ peers) stand = absurd stand
as_many (k ∷ configs) [] stand = absurd stand
as_many (k ∷ configs) (p ∷ peers) stand = omega (arith, as_many configs peers stand.2)

-- a new control serves its configuration
pub serves_opened : (begun : Opening) (control : ControlState) → length begun.settings.sessions ≤ 128
    → IsOpened begun run_limits control → Serves begun.settings control
serves_opened begun control few opened = record {
  sessions = as_many begun.settings.sessions control.peers opened.stands.stand;
  few = few;
  interfaces = λ iface is. subst (λ (rows : List (ℕ × Kind)). IsConfigured rows iface)
      (sym (opened.stands.now.edited
      ∙ ap (λ (n : ℕ). kinds_after (take n []) begun.settings.interfaces) opened.stands.counted)) is;
}

pub number_opened : (begun : Opening) (control : ControlState) → IsOpened begun run_limits control
    → last_number control.marks ≡ 0
number_opened begun control opened = ap last_number opened.marks
