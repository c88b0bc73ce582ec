-- The items of a session: what the events of its feed come to (RFC 4271, sections 4.1 and 8.1).
use Rattle.std.specs.Prelude.{◌≡◌, ℕ, ◌+◌, List, [], ◌∷◌, ◌++◌, length, map, Option, Some, None}
use Rattle.bgp_wire.specs.Frames.{Framing, End, Clean, Fault}
use Rattle.feed_io.specs.Events.{Event, up, octets, down, elapsed}

-- the transport came up, a whole message came, a header with a fault of this subcode came, the transport went down,
-- seconds passed
pub data Item : Type 0 where
  came_up : Item
  message : List ℕ → Item
  bad_header : ℕ → Item
  went_down : Item
  passed : ℕ → Item

-- a connection is what comes from the transport's coming up until it comes up anew or goes down:
-- its text is the octets of it so far; outside a connection there is none
abbrev pub Connection : Type 0
Connection = Option (List ℕ)

-- the connection after one more event
abbrev pub connection_after : Connection → Event → Connection
connection_after connection up = Some []
connection_after None (octets piece) = None
connection_after (Some text) (octets piece) = Some (text ++ piece)
connection_after connection down = None
connection_after connection (elapsed seconds) = connection

-- the connection that reaches the end of the events
abbrev pub connection_at_end : Connection → List Event → Connection
connection_at_end connection [] = connection
connection_at_end connection (event ∷ events) = connection_at_end (connection_after connection event) events

-- the end of a text is an item where it is a header fault, and none where it is less than a message
abbrev pub end_items : End → List Item
end_items Clean = []
end_items (Fault subcode) = bad_header subcode ∷ []

-- the items of a text: its whole messages, and then the fault of the header behind them; what is behind that fault is
-- none
pub record AreItemsOf (text : List ℕ) (items : List Item) : Type 0 where
  pub framing : Framing text
  pub same : items ≡ map message framing.messages ++ end_items framing.end

-- a piece of octets brings the items that need it: those that the text has with the piece and has not without it
pub record BringsItems (text piece : List ℕ) (brought : List Item) : Type 0 where
  pub before : List Item
  pub without : AreItemsOf text before
  pub with_it : AreItemsOf (text ++ piece) (before ++ brought)

-- the items that stand at one event; octets outside a connection bring none
abbrev pub Brings : Connection → Event → List Item → Type 0
Brings connection up items = items ≡ came_up ∷ []
Brings None (octets piece) items = items ≡ []
Brings (Some text) (octets piece) items = BringsItems text piece items
Brings connection down items = items ≡ went_down ∷ []
Brings connection (elapsed seconds) items = items ≡ passed seconds ∷ []

-- the items of events behind a connection: those that stand at the first, and then those of the others
abbrev pub AreItemsAfter : Connection → List Event → List Item → Type 0
AreItemsAfter connection [] items = items ≡ []
AreItemsAfter connection (event ∷ events) items =
    (now : List Item) × (later : List Item) × (items ≡ now ++ later) × Brings connection event now
    × AreItemsAfter (connection_after connection event) events later

-- the items of all events of a feed, in their order; at the beginning no transport is up
abbrev pub AreItems : List Event → List Item → Type 0
AreItems events items = AreItemsAfter None events items

-- how many octets are left behind the last whole message; none behind a header fault
abbrev pub left_behind : End → List ℕ → ℕ
left_behind Clean rest = length rest
left_behind (Fault subcode) rest = 0

-- how many octets a connection leaves behind its last whole message, and none where no transport is up
abbrev pub LeavesOctets : Connection → ℕ → Type 0
LeavesOctets None count = count ≡ 0
LeavesOctets (Some text) count = (framing : Framing text) × (count ≡ left_behind framing.end framing.rest)

-- how many octets are left at the end of the events
abbrev pub IsRest : List Event → ℕ → Type 0
IsRest events count = LeavesOctets (connection_at_end None events) count

-- the events with each octet in an event of its own
abbrev pub spread : List Event → List Event
spread [] = []
spread (up ∷ events) = up ∷ spread events
spread (octets piece ∷ events) = map (λ octet. octets (octet ∷ [])) piece ++ spread events
spread (down ∷ events) = down ∷ spread events
spread (elapsed seconds ∷ events) = elapsed seconds ∷ spread events

-- the events differ in nothing but the places where octets are cut
abbrev pub SameButCuts : List Event → List Event → Type 0
SameButCuts events others = spread events ≡ spread others

-- how many octets came
abbrev pub octet_count : List Event → ℕ
octet_count [] = 0
octet_count (up ∷ events) = octet_count events
octet_count (octets piece ∷ events) = length piece + octet_count events
octet_count (down ∷ events) = octet_count events
octet_count (elapsed seconds ∷ events) = octet_count events
