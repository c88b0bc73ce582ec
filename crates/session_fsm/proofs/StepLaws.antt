-- Each state and each item have one outcome in the table of steps.
use Rattle.std.proofs.Common.{◌≡◌, ◌⊎◌, inl, inr, ℕ, List, ap, subst, sym, ◌∙◌, refl}
use Rattle.std.specs.Borrow.{Bor}
use Rattle.bgp_wire.specs.declared.kinds.MsgKind.{MsgKind}
use Rattle.bgp_open.specs.Openings.{open_fault, open_seen}
use Rattle.session_fsm.specs.Items.{notice}
use Rattle.bgp_wire.specs.declared.kinds.MsgKind.TheVariants.{Open, Update, Notification, Keepalive}
use Rattle.bgp_update.specs.Faults.{HasOutcome}
use Rattle.bgp_update.proofs.OutcomeLaws.{has_outcome, never_both, fault_once}
use Rattle.bgp_update.proofs.UpdateLaws.{one_update}
use Rattle.urpf_base.specs.declared.sessions.ResetCause.TheVariants.{Fault}
use Rattle.bgp_update.specs.declared.subcodes.TheConstants.{UPDATE_MESSAGE_ERROR}
use Rattle.urpf_base.specs.declared.sessions.SessionConfig.{SessionConfig}
use Rattle.session_fsm.specs.declared.items.Item.{Item}
use Rattle.session_fsm.specs.declared.items.Item.TheVariants.{Up, Message, HeaderFault, Down, Elapsed}
use Rattle.session_fsm.specs.declared.items.Effect.TheVariants.{Changes}
use Rattle.session_fsm.specs.declared.states.Peer.{Peer}
use Rattle.session_fsm.specs.declared.states.State.{State}
use Rattle.session_fsm.specs.declared.states.State.TheVariants.{Idle, OpenSent, OpenConfirm, Established}
use Rattle.session_fsm.specs.declared.states.Timer.{Timer}
use Rattle.session_fsm.specs.Seconds.{started}
use Rattle.session_fsm.specs.Table.{Outcome, Step, Accepts, Refuses, after_open, ended}

-- an UPDATE in Established has one outcome
pub one_answer : (timer : Timer) (peer : Peer) (body : List ℕ) (a b : Outcome)
    → Accepts timer peer body a ⊎ Refuses peer body a → Accepts timer peer body b ⊎ Refuses peer body b → a ≡ b
one_answer timer peer body a b (inl p) (inl q) =
    p.2 ∙ ap (λ u. (Established (started timer.limit) peer, Changes u))
    (one_update peer.width peer.v6 body p.0 q.0 p.1 q.1) ∙ sym q.2
one_answer timer peer body a b (inl p) (inr q) = absurd (never_both peer.width peer.v6 body p.0 q.0 p.1 q.1)
one_answer timer peer body a b (inr p) (inl q) = absurd (never_both peer.width peer.v6 body q.0 p.0 q.1 p.1)
one_answer timer peer body a b (inr p) (inr q) =
    p.2 ∙ ap (λ sub. ended (Fault UPDATE_MESSAGE_ERROR sub)) (fault_once peer.width peer.v6 body p.0 q.0 p.1 q.1)
    ∙ sym q.2

-- each state and each item have at most one outcome
pub one_outcome : (config : SessionConfig) (state : State) (item : Item) (a b : Outcome)
    → Step config state item a → Step config state item b → a ≡ b
one_outcome config Idle Up a b p q = p ∙ sym q
one_outcome config Idle Down a b p q = p ∙ sym q
one_outcome config Idle (HeaderFault sub) a b p q = p ∙ sym q
one_outcome config Idle (Message Notification body) a b p q = p ∙ sym q
one_outcome config Idle (Elapsed seconds) a b p q = p ∙ sym q
one_outcome config Idle (Message Open body) a b p q = p ∙ sym q
one_outcome config Idle (Message Update body) a b p q = p ∙ sym q
one_outcome config Idle (Message Keepalive body) a b p q = p ∙ sym q
one_outcome config (OpenSent timer) Up a b p q = p ∙ sym q
one_outcome config (OpenSent timer) Down a b p q = p ∙ sym q
one_outcome config (OpenSent timer) (HeaderFault sub) a b p q = p ∙ sym q
one_outcome config (OpenSent timer) (Message Notification body) a b p q = p ∙ sym q
one_outcome config (OpenSent timer) (Elapsed seconds) a b p q = p ∙ sym q
one_outcome config (OpenSent timer) (Message Open body) a b p q = p ∙ sym q
one_outcome config (OpenSent timer) (Message Update body) a b p q = p ∙ sym q
one_outcome config (OpenSent timer) (Message Keepalive body) a b p q = p ∙ sym q
one_outcome config (OpenConfirm timer peer) Up a b p q = p ∙ sym q
one_outcome config (OpenConfirm timer peer) Down a b p q = p ∙ sym q
one_outcome config (OpenConfirm timer peer) (HeaderFault sub) a b p q = p ∙ sym q
one_outcome config (OpenConfirm timer peer) (Message Notification body) a b p q = p ∙ sym q
one_outcome config (OpenConfirm timer peer) (Elapsed seconds) a b p q = p ∙ sym q
one_outcome config (OpenConfirm timer peer) (Message Open body) a b p q = p ∙ sym q
one_outcome config (OpenConfirm timer peer) (Message Update body) a b p q = p ∙ sym q
one_outcome config (OpenConfirm timer peer) (Message Keepalive body) a b p q = p ∙ sym q
one_outcome config (Established timer peer) Up a b p q = p ∙ sym q
one_outcome config (Established timer peer) Down a b p q = p ∙ sym q
one_outcome config (Established timer peer) (HeaderFault sub) a b p q = p ∙ sym q
one_outcome config (Established timer peer) (Message Notification body) a b p q = p ∙ sym q
one_outcome config (Established timer peer) (Elapsed seconds) a b p q = p ∙ sym q
one_outcome config (Established timer peer) (Message Open body) a b p q = p ∙ sym q
one_outcome config (Established timer peer) (Message Update body) a b p q = one_answer timer peer body.now a b p q
one_outcome config (Established timer peer) (Message Keepalive body) a b p q = p ∙ sym q

-- an UPDATE in Established has an outcome
pub some_answer : (timer : Timer) (peer : Peer) (body : List ℕ) → HasOutcome peer.width peer.v6 body
    → (a : Outcome) × (Accepts timer peer body a ⊎ Refuses peer body a)
some_answer timer peer body (inl p) = ((Established (started timer.limit) peer, Changes p.0), inl (p.0, p.1, refl))
some_answer timer peer body (inr p) = (ended (Fault UPDATE_MESSAGE_ERROR p.0), inr (p.0, p.1, refl))

-- each state and each item have an outcome
pub some_outcome : (config : SessionConfig) (state : State) (item : Item) → (a : Outcome) × Step config state item a
some_outcome config Idle Up = (_, refl)
some_outcome config Idle Down = (_, refl)
some_outcome config Idle (HeaderFault sub) = (_, refl)
some_outcome config Idle (Message Notification body) = (_, refl)
some_outcome config Idle (Elapsed seconds) = (_, refl)
some_outcome config Idle (Message Open body) = (_, refl)
some_outcome config Idle (Message Update body) = (_, refl)
some_outcome config Idle (Message Keepalive body) = (_, refl)
some_outcome config (OpenSent timer) Up = (_, refl)
some_outcome config (OpenSent timer) Down = (_, refl)
some_outcome config (OpenSent timer) (HeaderFault sub) = (_, refl)
some_outcome config (OpenSent timer) (Message Notification body) = (_, refl)
some_outcome config (OpenSent timer) (Elapsed seconds) = (_, refl)
some_outcome config (OpenSent timer) (Message Open body) = (_, refl)
some_outcome config (OpenSent timer) (Message Update body) = (_, refl)
some_outcome config (OpenSent timer) (Message Keepalive body) = (_, refl)
some_outcome config (OpenConfirm timer peer) Up = (_, refl)
some_outcome config (OpenConfirm timer peer) Down = (_, refl)
some_outcome config (OpenConfirm timer peer) (HeaderFault sub) = (_, refl)
some_outcome config (OpenConfirm timer peer) (Message Notification body) = (_, refl)
some_outcome config (OpenConfirm timer peer) (Elapsed seconds) = (_, refl)
some_outcome config (OpenConfirm timer peer) (Message Open body) = (_, refl)
some_outcome config (OpenConfirm timer peer) (Message Update body) = (_, refl)
some_outcome config (OpenConfirm timer peer) (Message Keepalive body) = (_, refl)
some_outcome config (Established timer peer) Up = (_, refl)
some_outcome config (Established timer peer) Down = (_, refl)
some_outcome config (Established timer peer) (HeaderFault sub) = (_, refl)
some_outcome config (Established timer peer) (Message Notification body) = (_, refl)
some_outcome config (Established timer peer) (Elapsed seconds) = (_, refl)
some_outcome config (Established timer peer) (Message Open body) = (_, refl)
some_outcome config (Established timer peer) (Message Update body) =
    some_answer timer peer body.now (has_outcome peer.width peer.v6 body.now)
some_outcome config (Established timer peer) (Message Keepalive body) = (_, refl)

-- the row of a message is that of its body, wherever it stands
pub same_body : (config : SessionConfig) (state : State) (kind : MsgKind) (a b : Bor (List ℕ)) (outcome : Outcome)
    → a.now ≡ b.now → Step config state (Message kind a) outcome → Step config state (Message kind b) outcome
same_body config Idle Open a b outcome same is = is
same_body config Idle Update a b outcome same is = is
same_body config Idle Notification a b outcome same is = is
same_body config Idle Keepalive a b outcome same is = is
same_body config (OpenSent timer) Open a b outcome same is =
    subst (λ (t : List ℕ). outcome ≡ after_open config (open_seen t) (open_fault t config.peer_as)) same is
same_body config (OpenSent timer) Update a b outcome same is = is
same_body config (OpenSent timer) Notification a b outcome same is =
    subst (λ (t : List ℕ). outcome ≡ ended (notice t)) same is
same_body config (OpenSent timer) Keepalive a b outcome same is = is
same_body config (OpenConfirm timer peer) Open a b outcome same is = is
same_body config (OpenConfirm timer peer) Update a b outcome same is = is
same_body config (OpenConfirm timer peer) Notification a b outcome same is =
    subst (λ (t : List ℕ). outcome ≡ ended (notice t)) same is
same_body config (OpenConfirm timer peer) Keepalive a b outcome same is = is
same_body config (Established timer peer) Open a b outcome same is = is
same_body config (Established timer peer) Update a b outcome same is =
    subst (λ (t : List ℕ). Accepts timer peer t outcome ⊎ Refuses peer t outcome) same is
same_body config (Established timer peer) Notification a b outcome same is =
    subst (λ (t : List ℕ). outcome ≡ ended (notice t)) same is
same_body config (Established timer peer) Keepalive a b outcome same is = is
