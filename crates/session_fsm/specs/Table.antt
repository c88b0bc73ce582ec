-- The table of steps: each state against each kind of item (RFC 4271, sections 6 and 8.2.2; the profile is our own
-- choice).
use Rattle.std.specs.Prelude.{◌≡◌, ◌⊎◌, ℕ, Bool, true, false, List, Option, Some, None}
use Rattle.urpf_base.specs.RouteUpdates.{RouteUpdate}
use Rattle.bgp_wire.specs.declared.kinds.MsgKind.TheVariants.{Open, Update, Notification, Keepalive}
use Rattle.bgp_open.specs.declared.opening.OpenSeen.{OpenSeen}
use Rattle.bgp_open.specs.Openings.{open_fault, open_seen}
use Rattle.bgp_update.specs.Update.{IsUpdate}
use Rattle.bgp_update.specs.Faults.{IsFaultOf}
use Rattle.urpf_base.specs.declared.sessions.ResetCause.{ResetCause}
use Rattle.urpf_base.specs.declared.sessions.ResetCause.TheVariants.{Fault, Closed}
use Rattle.bgp_wire.specs.declared.header.TheConstants.{MESSAGE_HEADER_ERROR}
use Rattle.bgp_open.specs.declared.faults.TheConstants.{OPEN_MESSAGE_ERROR}
use Rattle.bgp_update.specs.declared.subcodes.TheConstants.{UPDATE_MESSAGE_ERROR}
use Rattle.session_fsm.specs.declared.codes.TheConstants.{HOLD_TIMER_EXPIRED, FINITE_STATE_MACHINE_ERROR, UNSPECIFIC}
use Rattle.urpf_base.specs.declared.sessions.SessionConfig.{SessionConfig}
use Rattle.session_fsm.specs.declared.items.Item.{Item}
use Rattle.session_fsm.specs.declared.items.Item.TheVariants.{Up, Message, HeaderFault, Down, Elapsed}
use Rattle.session_fsm.specs.declared.items.Effect.{Effect}
use Rattle.session_fsm.specs.declared.items.Effect.TheVariants.{Nothing, Advanced, Reset, Changes}
use Rattle.session_fsm.specs.declared.states.Peer.{Peer}
use Rattle.session_fsm.specs.declared.states.State.{State}
use Rattle.session_fsm.specs.declared.states.State.TheVariants.{Idle, OpenSent, OpenConfirm, Established}
use Rattle.session_fsm.specs.declared.states.TheConstants.{LARGE_HOLD_TIME}
use Rattle.session_fsm.specs.declared.states.Timer.{Timer}
use Rattle.session_fsm.specs.Agreement.{agreed_hold, agreed_peer}
use Rattle.session_fsm.specs.Items.{notice}
use Rattle.session_fsm.specs.Seconds.{started, later, expires}

-- the next state, and what the item does
abbrev pub Outcome : Type 0
Outcome = State × Effect

-- the transport is up, and the OPEN of the peer is waited for, for 240 seconds (RFC 4271, section 8.2.2)
abbrev pub opened : State
opened = OpenSent (started LARGE_HOLD_TIME)

-- the session ends for a cause
abbrev pub ended : ResetCause → Outcome
ended cause = (Idle, Reset cause)

-- a message that the state does not expect ends the session (RFC 4271, section 6.6)
abbrev pub unexpected : Outcome
unexpected = ended (Fault FINITE_STATE_MACHINE_ERROR UNSPECIFIC)

-- seconds that reach the limit end the session, and others leave it as it is (RFC 4271, section 6.5)
abbrev pub waited : Bool → State → Outcome
waited true stay = ended (Fault HOLD_TIMER_EXPIRED UNSPECIFIC)
waited false stay = (stay, Nothing)

-- what ends a session whose transport is up, whatever its state (RFC 4271, section 8.2.2)
abbrev pub interruption : Item → Option Outcome
interruption Up = Some (opened, Reset Closed)
interruption Down = Some (ended Closed)
interruption (HeaderFault sub) = Some (ended (Fault MESSAGE_HEADER_ERROR sub))
interruption (Message Notification body) = Some (ended (notice body.now))
interruption (Message Open body) = None
interruption (Message Update body) = None
interruption (Message Keepalive body) = None
interruption (Elapsed seconds) = None

-- an OPEN with a fault ends the session, and one without a fault confirms it (RFC 4271, sections 6.2 and 8.2.2)
abbrev pub after_open : SessionConfig → OpenSeen → Option ℕ → Outcome
after_open config seen (Some sub) = ended (Fault OPEN_MESSAGE_ERROR sub)
after_open config seen None = (OpenConfirm (started (agreed_hold config seen)) (agreed_peer seen), Advanced)

-- an UPDATE without a fault changes routes
abbrev pub Accepts : Timer → Peer → List ℕ → Outcome → Type 0
Accepts timer peer body outcome = (update : RouteUpdate)
    × IsUpdate peer.width peer.v6 body update × (outcome ≡ (Established (started timer.limit) peer, Changes update))

-- an UPDATE with a fault ends the session, and nothing of it counts (RFC 4271, section 6.3)
abbrev pub Refuses : Peer → List ℕ → Outcome → Type 0
Refuses peer body outcome = (sub : ℕ)
    × IsFaultOf peer.width peer.v6 body sub × (outcome ≡ ended (Fault UPDATE_MESSAGE_ERROR sub))

-- the outcome of an item in a state, one row for each
abbrev pub Step : SessionConfig → State → Item → Outcome → Type 0
Step config Idle Up outcome = outcome ≡ (opened, Advanced)
Step config Idle Down outcome = outcome ≡ (Idle, Nothing)
Step config Idle (HeaderFault sub) outcome = outcome ≡ (Idle, Nothing)
Step config Idle (Message Notification body) outcome = outcome ≡ (Idle, Nothing)
Step config Idle (Elapsed seconds) outcome = outcome ≡ (Idle, Nothing)
Step config Idle (Message Open body) outcome = outcome ≡ (Idle, Nothing)
Step config Idle (Message Update body) outcome = outcome ≡ (Idle, Nothing)
Step config Idle (Message Keepalive body) outcome = outcome ≡ (Idle, Nothing)
Step config (OpenSent timer) Up outcome = outcome ≡ (opened, Reset Closed)
Step config (OpenSent timer) Down outcome = outcome ≡ ended Closed
Step config (OpenSent timer) (HeaderFault sub) outcome = outcome ≡ ended (Fault MESSAGE_HEADER_ERROR sub)
Step config (OpenSent timer) (Message Notification body) outcome = outcome ≡ ended (notice body.now)
Step config (OpenSent timer) (Elapsed seconds) outcome =
    outcome ≡ waited (expires timer seconds) (OpenSent (later timer seconds))
Step config (OpenSent timer) (Message Open body) outcome =
    outcome ≡ after_open config (open_seen body.now) (open_fault body.now config.peer_as)
Step config (OpenSent timer) (Message Update body) outcome = outcome ≡ unexpected
Step config (OpenSent timer) (Message Keepalive body) outcome = outcome ≡ unexpected
Step config (OpenConfirm timer peer) Up outcome = outcome ≡ (opened, Reset Closed)
Step config (OpenConfirm timer peer) Down outcome = outcome ≡ ended Closed
Step config (OpenConfirm timer peer) (HeaderFault sub) outcome = outcome ≡ ended (Fault MESSAGE_HEADER_ERROR sub)
Step config (OpenConfirm timer peer) (Message Notification body) outcome = outcome ≡ ended (notice body.now)
Step config (OpenConfirm timer peer) (Elapsed seconds) outcome =
    outcome ≡ waited (expires timer seconds) (OpenConfirm (later timer seconds) peer)
Step config (OpenConfirm timer peer) (Message Open body) outcome = outcome ≡ unexpected
Step config (OpenConfirm timer peer) (Message Update body) outcome = outcome ≡ unexpected
Step config (OpenConfirm timer peer) (Message Keepalive body) outcome =
    outcome ≡ (Established (started timer.limit) peer, Advanced)
Step config (Established timer peer) Up outcome = outcome ≡ (opened, Reset Closed)
Step config (Established timer peer) Down outcome = outcome ≡ ended Closed
Step config (Established timer peer) (HeaderFault sub) outcome = outcome ≡ ended (Fault MESSAGE_HEADER_ERROR sub)
Step config (Established timer peer) (Message Notification body) outcome = outcome ≡ ended (notice body.now)
Step config (Established timer peer) (Elapsed seconds) outcome =
    outcome ≡ waited (expires timer seconds) (Established (later timer seconds) peer)
Step config (Established timer peer) (Message Open body) outcome = outcome ≡ unexpected
Step config (Established timer peer) (Message Update body) outcome =
    Accepts timer peer body.now outcome ⊎ Refuses peer body.now outcome
Step config (Established timer peer) (Message Keepalive body) outcome =
    outcome ≡ (Established (started timer.limit) peer, Nothing)

-- the row of the state and the item ends the session for this cause
abbrev pub Resets : SessionConfig → State → Item → ResetCause → Type 0
Resets config state item cause = (next : State) × Step config state item (next, Reset cause)

-- a session: its configuration, its state, and how many items it took
pub record SessionState : Type 0 where
  pub config : SessionConfig
  pub state : State
  pub items : ℕ

-- the session exchanges routes
abbrev pub is_established : State → Bool
is_established Idle = false
is_established (OpenSent timer) = false
is_established (OpenConfirm timer peer) = false
is_established (Established timer peer) = true
