-- Which events a session and its routes stand for, where no event is kept (RFC 4271, sections 3.2 and 8).
use Rattle.std.specs.Prelude.{◌≡◌, ℕ, Bool, true, false, List, [], ◌++◌, length, Some, None}
use Rattle.std.specs.List.{concat, AllByRecursion}
use Rattle.bgp_wire.specs.Frames.{Framing, Fault, IsMessage}
use Rattle.feed_io.specs.Events.{Event}
use Rattle.session_fsm.specs.declared.items.Effect.{Effect}
use Rattle.control_core.specs.States.{PeerState}
use Rattle.control_core.specs.Items.{Item, Connection, AreItems, AreItemsOf, connection_at_end, octet_count}
use Rattle.control_core.specs.Effects.{HoldsAll}
use Rattle.control_core.specs.Runs.{Runs}

-- the text is whole messages, and then these octets, whose items are these
pub record IsUsedUpTo (text octets : List ℕ) (pending : List Item) : Type 0 where
  pub used : List (List ℕ)
  pub parts : text ≡ concat used ++ octets
  pub each : AllByRecursion IsMessage used
  pub items : AreItemsOf octets pending

-- the header behind the messages of the text has a fault
pub record HasFault (text : List ℕ) : Type 0 where
  pub framing : Framing text
  pub subcode : ℕ
  pub fault : framing.end ≡ Fault subcode

-- how the octets that are held, and the items still to be taken, stand to the connection that reaches the end of the
-- events: where it takes more octets they are what its items have not used; where no transport is up, or its header
-- fault was taken, there are none
abbrev pub HoldsConnection : Bool → Connection → List ℕ → List Item → Type 0
HoldsConnection true None octets pending = ⊥
HoldsConnection true (Some text) octets pending = IsUsedUpTo text octets pending
HoldsConnection false None octets pending = (octets ≡ []) × (pending ≡ [])
HoldsConnection false (Some text) octets pending = (octets ≡ []) × (pending ≡ []) × HasFault text

-- the session took the first items of these events, which had these effects; it has the state and the routes that they
-- leave, holds the octets that they have not used, and counts the octets of all events
pub record StandsFor (events : List Event) (effects : List Effect) (peer : PeerState) : Type 0 where
  pub took : List Item
  pub pending : List Item
  pub items : AreItems events (took ++ pending)
  pub runs : Runs peer.session.config took effects peer.session.state
  pub counted : peer.session.items ≡ length effects
  pub routes : HoldsAll effects peer.routes
  pub connection : HoldsConnection peer.receiving (connection_at_end None events) peer.held pending
  pub octets : peer.octets ≡ octet_count events
