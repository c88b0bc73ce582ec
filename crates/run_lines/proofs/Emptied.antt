-- Which slots are empty at a place of a run.
use Rattle.std.proofs.Common.{Option, ◌≡◌, ◌⊎◌, ℕ, zero, suc, true, false, List, [], ◌∷◌, ◌++◌, map, Some, None}
use Rattle.std.proofs.Common.{refl, sym, ap, subst, ◌∙◌, arith, get_or}
use Rattle.std.specs.Prelude.{slice_get, slice_set, ◌↔◌}
use Rattle.std.proofs.lemmas.List.{append-nil}
use Rattle.urpf_base.specs.declared.sessions.SessionConfig.{SessionConfig}
use Rattle.control_core.specs.States.{ControlState, PeerState}
use Rattle.control_core.specs.Worlds.{Course}
use Rattle.control_core.specs.declared.limits.RunFault.{RunFault}
use Rattle.run_lines.specs.Inputs.{Input, Run}
use Rattle.run_lines.specs.Places.{Place, Reached, not_begun, opening, place_after}
use Rattle.run_lines.specs.Runs.{AreSessionsAt, EmptiesSome, IsAt, StepsStop}
use Rattle.run_lines.specs.Slots.{AreEmptied, AreEmptiedBetween, Slot, filled, told_by}
use Rattle.run_lines.specs.Steps.{Step}
use Rattle.run_lines.proofs.Composing.{place_after-append}

-- another place of a list is as it was
pub get_other : {X : Type 0} (xs : List X) (i j : ℕ) (x : X) → (j ≡ i → ⊥) → slice_get (slice_set xs i x) j ≡ slice_get xs j
get_other [] i j x other = refl
get_other (y ∷ xs) zero zero x other = absurd (other refl)
get_other (y ∷ xs) zero (suc j) x other = refl
get_other (y ∷ xs) (suc i) zero x other = refl
get_other (y ∷ xs) (suc i) (suc j) x other = get_other xs i j x (λ same. other (ap suc same))

pub same_place : (a b : ℕ) → (a ≡ b) ⊎ (a ≡ b → ⊥)
same_place a b = grind arith

-- how far another session has come
pub reached_other : (sessions : List Reached) (i j : ℕ) (at : Reached) → (j ≡ i → ⊥)
    → get_or (slice_set sessions i at) j not_begun ≡ get_or sessions j not_begun
reached_other [] i j at other = refl
reached_other (r ∷ sessions) zero zero at other = absurd (other refl)
reached_other (r ∷ sessions) zero (suc j) at other = refl
reached_other (r ∷ sessions) (suc i) zero at other = refl
reached_other (r ∷ sessions) (suc i) (suc j) at other = reached_other sessions i j at (λ same. other (ap suc same))

emptied_all : (inputs : List Input) (sessions : List Reached) (courses : List Course) (peers : List PeerState)
    (slots : List Slot) → AreSessionsAt inputs sessions courses peers slots
    → (s : ℕ) → slice_get slots s ≡ Some None ↔ (get_or sessions s not_begun).ended ≡ true
emptied_all [] [] [] [] [] are s = (λ is. cc, λ is. cc)
emptied_all [] [] [] [] (l ∷ slots) are s = absurd are
emptied_all [] [] [] (p ∷ peers) slots are s = absurd are
emptied_all [] [] (c ∷ courses) peers slots are s = absurd are
emptied_all [] (a ∷ sessions) courses peers slots are s = absurd are
emptied_all (i ∷ inputs) [] courses peers slots are s = absurd are
emptied_all (i ∷ inputs) (a ∷ sessions) [] peers slots are s = absurd are
emptied_all (i ∷ inputs) (a ∷ sessions) (c ∷ courses) [] slots are s = absurd are
emptied_all (i ∷ inputs) (a ∷ sessions) (c ∷ courses) (p ∷ peers) [] are s = absurd are
emptied_all (i ∷ inputs) (a ∷ sessions) (c ∷ courses) (p ∷ peers) (l ∷ slots) are zero =
    (λ is. are.0.emptied.0 (own l is), λ is. ap Some (are.0.emptied.1 is))
  where
    own : (l : Slot) → Some l ≡ Some None → l ≡ None
    own l is = cc
emptied_all (i ∷ inputs) (a ∷ sessions) (c ∷ courses) (p ∷ peers) (l ∷ slots) are (suc s) =
    emptied_all inputs sessions courses peers slots are.1 s

-- where a run is, the slots are empty of the sessions whose end it met
pub emptied_at : (run : Run) (place : Place) (control : ControlState) (rounds : ℕ) (slots : List Slot)
    → IsAt run place control rounds slots → AreEmptied place slots
emptied_at run place control rounds slots s session =
    emptied_all run.inputs place.sessions s.courses control.peers slots s.sessions session

-- slots that are the same at two places
pub emptied_between : (first second : Place) (slots : List Slot) → AreEmptied first slots → AreEmptied second slots
    → AreEmptiedBetween first second slots
emptied_between first second slots before after =
    record { all = λ s is. (before s).1 is; only = λ s is. (after s).0 is }

-- where all steps are done
pub empties_all : (run : Run) (steps : List Step) (slots : List Slot)
    → AreEmptied (place_after run.inputs steps (opening run.config.sessions)) slots → EmptiesSome run steps slots
empties_all run steps slots emptied = record {
  done = steps;
  others = [];
  parts = sym (append-nil steps);
  emptied = emptied_between (place_after run.inputs steps (opening run.config.sessions))
      (place_after run.inputs (steps ++ []) (opening run.config.sessions)) slots emptied
      (subst (λ (ss : List Step). AreEmptied (place_after run.inputs ss (opening run.config.sessions)) slots)
      (sym (append-nil steps)) emptied);
}

-- no session met its end at the opening
unmet_opening : (sessions : List SessionConfig) (s : ℕ)
    → (get_or (map (λ (k : SessionConfig). not_begun) sessions) s not_begun).ended ≡ false
unmet_opening [] s = refl
unmet_opening (k ∷ sessions) zero = refl
unmet_opening (k ∷ sessions) (suc s) = unmet_opening sessions s

-- no slot is empty at first
all_filled : (inputs : List Input) (s : ℕ)
    → slice_get (map (λ (i : Input). filled i.course.events) inputs) s ≡ Some None → ⊥
all_filled [] s is = cc
all_filled (i ∷ inputs) zero is = cc
all_filled (i ∷ inputs) (suc s) is = all_filled inputs s is

-- where no step is done
pub empties_none : (run : Run) (steps : List Step) (slots : List Slot) → slots ≡ told_by run
    → EmptiesSome run steps slots
empties_none run steps slots told = record {
  done = [];
  others = steps;
  parts = refl;
  emptied = record {
    all = λ s is. let clash : true ≡ false = sym is ∙ unmet_opening run.config.sessions s in cc;
    only = λ s is. absurd (all_filled run.inputs s (ap (λ (ls : List Slot). slice_get ls s) (sym told) ∙ is));
  };
}

-- where one of the steps stopped
pub empties_some : (run : Run) (steps : List Step) (slots : List Slot) (fault : RunFault)
    (old new : Option (List ℕ)) → StepsStop run (opening run.config.sessions) steps slots fault old new
    → EmptiesSome run steps slots
empties_some run steps slots fault old new stop = record {
  done = stop.before;
  others = stop.step ∷ stop.later;
  parts = stop.parts;
  emptied = subst (λ (p : Place). AreEmptiedBetween (place_after run.inputs stop.before (opening run.config.sessions)) p slots)
      (sym (place_after-append run.inputs stop.before (stop.step ∷ []) (opening run.config.sessions))) stop.stops.emptied;
}
