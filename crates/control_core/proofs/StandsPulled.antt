-- What a control stands for goes on where one of its sessions is pulled.
use Rattle.std.proofs.Common.{◌≡◌, ◌∙◌, ℕ, List, ◌++◌, Option, Some, Result, ap, arith, refl, sym, subst}
use Rattle.std.specs.Prelude.{slice_get, slice_set}
use Rattle.feed_io.specs.Events.{Event}
use Rattle.router_config.specs.declared.edits.Edit.{Edit}
use Rattle.session_fsm.specs.declared.items.Effect.{Effect}
use Rattle.control_core.specs.declared.limits.Limits.{Limits}
use Rattle.control_core.specs.declared.limits.RunFault.{RunFault}
use Rattle.control_core.specs.Controls.{ControlStandsFor, PullsOne, goes_on}
use Rattle.control_core.specs.History.{StandsFor}
use Rattle.control_core.specs.Kept.{IsKept}
use Rattle.control_core.specs.States.{ControlState, PeerState}
use Rattle.control_core.specs.Worlds.{Course, Opening}
use Rattle.control_core.proofs.Places.{get_set, set_same, some_one}
use Rattle.control_core.proofs.Slots.{keeps_session}
use Rattle.control_core.proofs.Standing.{stands_pulled}

-- all but the sessions and their rows is as it was
pub record KeepsRest (old new : ControlState) : Type 0 where
  pub kinds : new.kinds ≡ old.kinds
  pub edits : new.edits ≡ old.edits
  pub marks : new.marks ≡ old.marks
  pub pairs : new.engine.world.pairs ≡ old.engine.world.pairs
  pub base : new.engine.base ≡ old.engine.base

-- a session was pulled
pub stands_by_pull : {F : Type 0} {left : F → Option (List Event)} {session : ℕ} {count : Option ℕ} {limits : Limits}
    {old_slots new_slots : List (Option F)} {old_held new_held : Option (List ℕ)} {result : Result (Unit {0}) RunFault}
    (opening : Opening) (edits : List Edit) (courses : List Course) (course : Course) (peer : PeerState)
    (gave : List Event) (more : List Effect) (old new : ControlState) → ControlStandsFor opening edits courses old
    → PullsOne left session count limits old_slots new_slots old_held new_held result old.peers new.peers
    → KeepsRest old new → IsKept new.peers new.kinds new.engine new.limits
    → slice_get courses session ≡ Some course → slice_get new.peers session ≡ Some peer
    → StandsFor (course.events ++ gave) (course.effects ++ more) peer
    → ControlStandsFor opening edits (slice_set courses session (goes_on course gave more)) new
stands_by_pull {session = session} opening edits courses course peer gave more old new stands pulled
    rest kept got there later =
    let same : pulled.later ≡ peer = some_one pulled.later peer
    (sym (get_set old.peers session pulled.peer pulled.later pulled.was)
    ∙ ap (λ (ps : List PeerState). slice_get ps session) (sym pulled.is) ∙ there) in
    let keeps = keeps_session _ _ _ pulled.slot pulled.next _ _ _ pulled.peer pulled.later pulled.pull in
    stands_pulled opening edits courses session course gave more pulled.peer pulled.later old new stands
    (record {
      was = pulled.was;
      peers = pulled.is;
      config = keeps.config;
      more_items = keeps.items;
      kinds = rest.kinds;
      edits = rest.edits;
      marks = rest.marks;
      pairs = rest.pairs;
      base = rest.base;
    })
    kept got (subst (StandsFor (course.events ++ gave) (course.effects ++ more)) (sym same) later)

-- a pull of the sessions of a control, within its limits
pub pulls_of_control : {F : Type 0} {left : F → Option (List Event)} {session : ℕ} {count : Option ℕ}
    {old_slots new_slots : List (Option F)} {old_held new_held : Option (List ℕ)} {result : Result (Unit {0}) RunFault}
    {later : List PeerState} (was now : ControlState) → was ≡ now
    → PullsOne left session count was.limits old_slots new_slots old_held new_held result was.peers later
    → PullsOne left session count now.limits old_slots new_slots old_held new_held result now.peers later
pulls_of_control {left = left} {session = session} {count = count} {old_slots = old_slots} {new_slots = new_slots}
    {old_held = old_held} {new_held = new_held} {result = result} {later = later} was now same pulls =
    subst (λ (v : ControlState). PullsOne left session count v.limits old_slots new_slots old_held new_held result
    v.peers later) same pulls

-- nothing was done
pub stands_still : (session : ℕ) (opening : Opening) (edits : List Edit) (courses : List Course) (course : Course)
    (peer : PeerState) (gave : List Event) (more : List Effect) (control : ControlState)
    → ControlStandsFor opening edits courses control
    → IsKept control.peers control.kinds control.engine control.limits
    → slice_get courses session ≡ Some course → slice_get control.peers session ≡ Some peer
    → StandsFor (course.events ++ gave) (course.effects ++ more) peer
    → ControlStandsFor opening edits (slice_set courses session (goes_on course gave more)) control
stands_still session opening edits courses course peer gave more control stands kept got there later =
    stands_pulled opening edits courses session course gave more peer peer control control stands
    (record {
      was = there;
      peers = set_same control.peers session peer there;
      config = refl;
      more_items = omega arith;
      kinds = refl;
      edits = refl;
      marks = refl;
      pairs = refl;
      base = refl;
    })
    kept got later
