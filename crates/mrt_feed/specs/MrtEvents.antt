-- The events of a session that a recording gives: a filter of its records, and a map over what is left. Our own choice.
use Rattle.std.specs.Prelude.{ℕ, Bool, true, false, ◌==◌, if◌then◌else◌, List, [], ◌∷◌, ◌++◌, slice_index, Option, Some, None}
use Rattle.std.specs.List.{filter}
use Rattle.urpf_base.specs.declared.address.Addr.{Addr}
use Rattle.urpf_base.specs.declared.address.Addr.TheVariants.{V4, V6}
use Rattle.as_path.specs.declared.widths.Width.{Width}
use Rattle.as_path.specs.declared.widths.Width.TheVariants.{Two, Four}
use Rattle.feed_io.specs.Events.{Event, up, octets, down}
use Rattle.mrt_feed.specs.declared.layout.TheConstants.{ESTABLISHED}
use Rattle.mrt_feed.specs.declared.opening.TheConstants.{OPEN, KEEPALIVE}
use Rattle.mrt_feed.specs.declared.record_head.Sender.{Sender}
use Rattle.mrt_feed.specs.Openings.{session_opening}
use Rattle.mrt_feed.specs.Records.{Record, other, message, change, records_in}

abbrev pub same_addr : Addr → Addr → Bool
same_addr (V4 a) (V4 b) = a == b
same_addr (V4 a) (V6 b) = false
same_addr (V6 a) (V4 b) = false
same_addr (V6 a) (V6 b) = a == b

abbrev pub same_width : Width → Width → Bool
same_width Two Two = true
same_width Two Four = false
same_width Four Two = false
same_width Four Four = true

-- a message of this type tells something: OPENs and KEEPALIVEs do not (RFC 4271, section 4.1)
abbrev pub is_told_type : ℕ → Bool
is_told_type type = if type == OPEN then false else if type == KEEPALIVE then false else true

-- a state other than Established ends a session (RFC 6396, section 4.4.1)
abbrev pub is_lost_state : ℕ → Bool
is_lost_state state = if state == ESTABLISHED then false else true

-- a message of this sender and type tells something of the session with this peer
abbrev pub is_told : Addr → Sender → ℕ → Bool
is_told peer sender type = if same_addr sender.addr peer then is_told_type type else false

-- a record tells something of it: the type is the 19th octet of a message (RFC 4271, section 4.1)
abbrev pub tells : Addr → Record → Bool
tells peer other = false
tells peer (message sender text) = is_told peer sender (slice_index text 18)
tells peer (change from state) = if same_addr from peer then is_lost_state state else false

-- how a record leaves the session: up, with an OPEN of this width, or down
abbrev pub link_after : Record → Option Width
link_after other = None
link_after (message sender text) = Some sender.width
link_after (change from state) = None

-- the transport comes up, and the made OPEN and KEEPALIVE come
abbrev pub opens : Sender → List Event
opens sender = up ∷ octets (session_opening sender) ∷ []

-- what comes before a message: nothing where the session is up at its width
abbrev pub before_message : Option Width → Sender → List Event
before_message None sender = opens sender
before_message (Some made) sender = if same_width made sender.width then [] else down ∷ opens sender

abbrev pub lost : Option Width → List Event
lost None = []
lost (Some made) = down ∷ []

-- what a record gives, by how the one before it left the session
abbrev pub record_events : Option Width → Record → List Event
record_events link other = []
record_events link (message sender text) = before_message link sender ++ octets text ∷ []
record_events link (change from state) = lost link

-- what the records give, one after the other
abbrev pub told_events : Option Width → List Record → List Event
told_events link [] = []
told_events link (r ∷ records) = record_events link r ++ told_events (link_after r) records

-- the events from here on, where the session is left so
abbrev pub events_from : Addr → Option Width → List ℕ → List Event
events_from peer link text = told_events link (filter (tells peer) (records_in text))

-- the events that a recording gives of the session with this peer, which is down at first
abbrev pub mrt_events : Addr → List ℕ → List Event
mrt_events peer text = events_from peer None text
