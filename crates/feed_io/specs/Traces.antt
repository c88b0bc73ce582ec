-- The trace format: the events of a session one after the other, to the end of the text. Our own choice.
use Rattle.std.specs.Prelude.{◌≡◌, ℕ, ◌<◌, ◌≤◌, ◌==◌, nat_lt, if◌then◌else◌, List, [], ◌∷◌, length, take, drop, Option}
use Rattle.std.specs.Prelude.{Some, None}
use Rattle.byteorder.specs.Endian.{big_number, big_bytes}
use Rattle.urpf_base.specs.Series.{values_in}
use Rattle.feed_io.specs.Events.{Event, up, octets, down, elapsed}
use Rattle.feed_io.specs.declared.trace_head.HeadEvent.{HeadEvent}
use Rattle.feed_io.specs.declared.trace_head.HeadEvent.TheVariants.{Malformed, Up, Octets, Down, Elapsed}
use Rattle.feed_io.specs.declared.trace_head.TheConstants.{UP, OCTETS, DOWN, ELAPSED}

-- how many octets stand before those of an event, by the first of them
abbrev pub code_length : ℕ → ℕ
code_length code = if code == OCTETS then 3 else if code == ELAPSED then 5 else 1

-- how many octets the head has that begins so
abbrev pub head_length : List ℕ → ℕ
head_length [] = 1
head_length (code ∷ field) = code_length code

-- octets that do not go past the end of a head
abbrev pub IsHead : List ℕ → Type 0
IsHead held = length held ≤ head_length held

-- an event of octets has at least one
abbrev pub octets_event : ℕ → HeadEvent
octets_event count = if count == 0 then Malformed else Octets count

-- what this first octet says, with its length or its seconds in the octets after it
abbrev pub coded_event : ℕ → List ℕ → HeadEvent
coded_event code field =
    if code == UP then Up else
    if code == OCTETS then octets_event (big_number 2 field) else
    if code == DOWN then Down else
    if code == ELAPSED then Elapsed (big_number 4 field) else Malformed

-- what the head says that the text begins with
abbrev pub head_event : List ℕ → HeadEvent
head_event [] = Malformed
head_event (code ∷ field) = coded_event code field

-- so many octets, or those that are there where the text ends before, and none where it has none
abbrev pub piece_front : ℕ → List ℕ → Option (Event × List ℕ)
piece_front count [] = None
piece_front count (b ∷ text) = Some (octets (take count (b ∷ text)), drop count (b ∷ text))

-- the event of a head, with its octets from the text behind it
abbrev pub body_front : HeadEvent → List ℕ → Option (Event × List ℕ)
body_front Malformed text = None
body_front Up text = Some (up, text)
body_front (Octets count) text = piece_front count text
body_front Down text = Some (down, text)
body_front (Elapsed seconds) text = Some (elapsed seconds, text)

-- the first event of a trace and the octets behind it; none where it is off the format or empty
abbrev pub event_front : List ℕ → Option (Event × List ℕ)
event_front text =
    if nat_lt (length text) (head_length text) then None
    else body_front (head_event text) (drop (head_length text) text)

-- the events of a trace up to its end, or to where it is off the format; of a broken octets event the octets that are
-- there
abbrev pub trace_events : List ℕ → List Event
trace_events text = values_in event_front text

-- an event of octets of which so many are left to give is a shorter one
abbrev pub owed_head : ℕ → List ℕ
owed_head count = if count == 0 then [] else OCTETS ∷ big_bytes 2 count

-- the trace is not at its end, and off the format where it is left
pub record IsMalformed (trace : List ℕ) : Type 0 where
  pub some : 0 < length trace
  pub none : event_front trace ≡ None
