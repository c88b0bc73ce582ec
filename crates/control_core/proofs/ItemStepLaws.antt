-- One item taken: its effect is that of its row, within the maximum of prefixes.
use Rattle.std.proofs.Common.{◌≡◌, ℕ, ◌<◌, ◌≤◌, Bool, true, false, List, [], ◌∷◌, ◌++◌, length, Option, Some, None}
use Rattle.std.proofs.Common.{refl, sym, ap, subst, arith}
use Rattle.std.specs.Prelude.{nat_lt, if◌then◌else◌}
use Rattle.std.proofs.lemmas.Bool.Decides.{nat_tests}
use Rattle.urpf_base.specs.Address.{Block}
use Rattle.urpf_base.specs.RouteUpdates.{RouteUpdate}
use Rattle.urpf_base.specs.declared.sessions.ResetCause.{ResetCause}
use Rattle.urpf_base.specs.declared.sessions.SessionConfig.{SessionConfig}
use Rattle.urpf_base.specs.declared.sessions.ResetCause.TheVariants.{Closed, Fault}
use Rattle.adj_rib.specs.Routes.{Routes, routes_at, prefixes_of}
use Rattle.session_fsm.specs.declared.codes.TheConstants.{CEASE, MAXIMUM_PREFIXES_REACHED}
use Rattle.session_fsm.specs.declared.items.Effect.{Effect}
use Rattle.session_fsm.specs.declared.items.Effect.TheVariants.{Nothing, Advanced, Reset, Changes}
use Rattle.session_fsm.specs.declared.items.Item.{Item}
use Rattle.bgp_wire.specs.declared.header.TheConstants.{MESSAGE_HEADER_ERROR}
use Rattle.session_fsm.specs.declared.codes.TheConstants.{HOLD_TIMER_EXPIRED, UNSPECIFIC}
use Rattle.session_fsm.specs.declared.items.Item.TheVariants.{Up, Message, HeaderFault, Down, Elapsed}
use Rattle.session_fsm.specs.declared.states.State.{State}
use Rattle.session_fsm.specs.declared.states.State.TheVariants.{Idle, OpenSent, OpenConfirm, Established}
use Rattle.session_fsm.specs.Seconds.{expires, later}
use Rattle.session_fsm.specs.Table.{Outcome, SessionState, Step, ended, waited}
use Rattle.control_core.specs.Effects.{HoldsSoMany, HoldsAll}
use Rattle.control_core.specs.Table.{Applies}
use Rattle.control_core.specs.Runs.{Limited}
use Rattle.control_core.specs.ItemSteps.{IsMessageItem, TookRow, Changed}
use Rattle.control_core.proofs.Held.{holds_after_nothing, holds_after_advance, holds_after_reset, holds_after_update}
use Rattle.control_core.proofs.Held.{holds_so_many}

pub not_above : (maximum count : ℕ) → count ≤ maximum → nat_lt maximum count ≡ false
not_above maximum count within = grind (arith, nat_tests)

pub is_above : (maximum count : ℕ) → maximum < count → nat_lt maximum count ≡ true
is_above maximum count over = grind (arith, nat_tests)

-- an UPDATE that leaves no more prefixes than the maximum
pub changed_within : (old : SessionState) (u : RouteUpdate) (first second : Routes) (count : ℕ) → Applies u first second
    → count ≡ length (prefixes_of second) → count ≤ old.config.max
    → (before : List Effect) → HoldsAll before first → Changed old u before old second None
changed_within old u first second count applies is within before holds =
    let many = holds_so_many (before ++ Changes u ∷ []) second (holds_after_update before u first second holds applies)
    in
    let choose : Bool → Outcome = λ b. if b then ended (Fault CEASE MAXIMUM_PREFIXES_REACHED)
    else (old.state, Changes u) in
    record {
      outcome = (old.state, Changes u);
      limited = (
        count,
        subst (HoldsSoMany (before ++ Changes u ∷ [])) (sym is) many,
        sym (ap choose (not_above old.config.max count within)),
      );
      came = record { state = refl; holds = holds_after_update before u first second holds applies; told = refl };
    }

-- an UPDATE that leaves more ends the session
pub changed_over : (old new : SessionState) (u : RouteUpdate) (first second third : Routes) (count : ℕ)
    (cause : ResetCause)
    → Applies u first second → count ≡ length (prefixes_of second) → old.config.max < count
    → new ≡ record old { state = Idle } → cause ≡ Fault CEASE MAXIMUM_PREFIXES_REACHED
    → ((p : Block) → routes_at third p ≡ None)
    → (before : List Effect) → HoldsAll before first → Changed old u before new third (Some cause)
changed_over old new u first second third count cause applies is over is_new is_cause none before holds =
    let many = holds_so_many (before ++ Changes u ∷ []) second (holds_after_update before u first second holds applies)
    in
    let choose : Bool → Outcome = λ b. if b then ended (Fault CEASE MAXIMUM_PREFIXES_REACHED)
    else (old.state, Changes u) in
    record {
      outcome = ended (Fault CEASE MAXIMUM_PREFIXES_REACHED);
      limited = (
        count,
        subst (HoldsSoMany (before ++ Changes u ∷ [])) (sym is) many,
        sym (ap choose (is_above old.config.max count over)),
      );
      came = record {
        state = ap (λ (s : SessionState). s.state) is_new;
        holds = holds_after_reset before (Fault CEASE MAXIMUM_PREFIXES_REACHED) third none;
        told = ap (λ c. Some c) is_cause;
      };
    }

pub took_nothing : (old new : SessionState) (item : Item) (routes : Routes)
    → Step old.config old.state item (new.state, Nothing)
    → (before : List Effect) → HoldsAll before routes → TookRow old item before new routes None
took_nothing old new item routes step before holds = record {
  row = (new.state, Nothing);
  step = step;
  outcome = (new.state, Nothing);
  limited = refl;
  came = record { state = refl; holds = holds_after_nothing before routes holds; told = refl };
}

pub took_advance : (old new : SessionState) (item : Item) (routes : Routes)
    → Step old.config old.state item (new.state, Advanced)
    → (before : List Effect) → HoldsAll before routes → TookRow old item before new routes None
took_advance old new item routes step before holds = record {
  row = (new.state, Advanced);
  step = step;
  outcome = (new.state, Advanced);
  limited = refl;
  came = record { state = refl; holds = holds_after_advance before routes holds; told = refl };
}

pub took_reset : (old new : SessionState) (item : Item) (routes : Routes) (cause : ResetCause)
    → Step old.config old.state item (new.state, Reset cause) → ((p : Block) → routes_at routes p ≡ None)
    → (before : List Effect) → TookRow old item before new routes (Some cause)
took_reset old new item routes cause step none before = record {
  row = (new.state, Reset cause);
  step = step;
  outcome = (new.state, Reset cause);
  limited = refl;
  came = record { state = refl; holds = holds_after_reset before cause routes none; told = refl };
}

-- an UPDATE took the session into the state in which it came to pass
pub took_change : (old mid new : SessionState) (item : Item) (u : RouteUpdate) (routes : Routes)
    (reset : Option ResetCause)
    → mid.config ≡ old.config → Step old.config old.state item (mid.state, Changes u)
    → (before : List Effect) → Changed mid u before new routes reset → TookRow old item before new routes reset
took_change old mid new item u routes reset same step before changed = record {
  row = (mid.state, Changes u);
  step = step;
  outcome = changed.outcome;
  limited =
      subst (λ (k : SessionConfig). Limited k.max before (mid.state, Changes u) changed.outcome) same changed.limited;
  came = changed.came;
}

-- what a session waits for changes no routes
waits : (b : Bool) (stay next : State) (update : RouteUpdate) → (next, Changes update) ≡ waited b stay → ⊥
waits true stay next update is =
    let clash : Changes update ≡ Reset (Fault HOLD_TIMER_EXPIRED UNSPECIFIC) = ap (λ (o : Outcome). o.1) is in cc
waits false stay next update is = let clash : Changes update ≡ Nothing = ap (λ (o : Outcome). o.1) is in cc

-- a message alone changes routes
pub only_messages : (config : SessionConfig) (state : State) (item : Item) (next : State) (update : RouteUpdate)
    → Step config state item (next, Changes update) → IsMessageItem item
only_messages config state (Message kind body) next update step = tt
only_messages config Idle Up next update step =
    let clash : Changes update ≡ Advanced = ap (λ (o : Outcome). o.1) step in cc
only_messages config (OpenSent timer) Up next update step =
    let clash : Changes update ≡ Reset Closed = ap (λ (o : Outcome). o.1) step in cc
only_messages config (OpenConfirm timer peer) Up next update step =
    let clash : Changes update ≡ Reset Closed = ap (λ (o : Outcome). o.1) step in cc
only_messages config (Established timer peer) Up next update step =
    let clash : Changes update ≡ Reset Closed = ap (λ (o : Outcome). o.1) step in cc
only_messages config Idle Down next update step =
    let clash : Changes update ≡ Nothing = ap (λ (o : Outcome). o.1) step in cc
only_messages config (OpenSent timer) Down next update step =
    let clash : Changes update ≡ Reset Closed = ap (λ (o : Outcome). o.1) step in cc
only_messages config (OpenConfirm timer peer) Down next update step =
    let clash : Changes update ≡ Reset Closed = ap (λ (o : Outcome). o.1) step in cc
only_messages config (Established timer peer) Down next update step =
    let clash : Changes update ≡ Reset Closed = ap (λ (o : Outcome). o.1) step in cc
only_messages config Idle (HeaderFault sub) next update step =
    let clash : Changes update ≡ Nothing = ap (λ (o : Outcome). o.1) step in cc
only_messages config (OpenSent timer) (HeaderFault sub) next update step =
    let clash : Changes update ≡ Reset (Fault MESSAGE_HEADER_ERROR sub) = ap (λ (o : Outcome). o.1) step in cc
only_messages config (OpenConfirm timer peer) (HeaderFault sub) next update step =
    let clash : Changes update ≡ Reset (Fault MESSAGE_HEADER_ERROR sub) = ap (λ (o : Outcome). o.1) step in cc
only_messages config (Established timer peer) (HeaderFault sub) next update step =
    let clash : Changes update ≡ Reset (Fault MESSAGE_HEADER_ERROR sub) = ap (λ (o : Outcome). o.1) step in cc
only_messages config Idle (Elapsed seconds) next update step =
    let clash : Changes update ≡ Nothing = ap (λ (o : Outcome). o.1) step in cc
only_messages config (OpenSent timer) (Elapsed seconds) next update step =
    absurd (waits (expires timer seconds) (OpenSent (later timer seconds)) next update step)
only_messages config (OpenConfirm timer peer) (Elapsed seconds) next update step =
    absurd (waits (expires timer seconds) (OpenConfirm (later timer seconds) peer) next update step)
only_messages config (Established timer peer) (Elapsed seconds) next update step =
    absurd (waits (expires timer seconds) (Established (later timer seconds) peer) next update step)
