-- What a feed gives: its events, and what one call gives and takes away. Our own choice.
use Rattle.std.specs.Prelude.{◌≡◌, ℕ, ◌≤◌, List, [], ◌∷◌, ◌++◌, length, min, take, Option}
use Rattle.std.specs.Prelude.{Some, None, Result, Ok, Err, IfOk}
use Rattle.feed_io.specs.declared.feeds.FeedEvent.{FeedEvent}
use Rattle.feed_io.specs.declared.feeds.FeedEvent.TheVariants.{Up, Octets, Down, Elapsed, End}

-- one event: the transport comes up, octets come, the transport goes down, seconds pass
pub data Event : Type 0 where
  up : Event
  octets : List ℕ → Event
  down : Event
  elapsed : ℕ → Event

-- the octets of a piece that are left, if any, before the later events
abbrev pub with_more : List ℕ → List Event → List Event
with_more [] later = later
with_more (b ∷ more) later = octets (b ∷ more) ∷ later

-- the events that a call gave, with their octets from the buffer: one, or none at the end
abbrev pub given : FeedEvent → List ℕ → List Event
given Up buffer = up ∷ []
given (Octets n) buffer = octets (take n buffer) ∷ []
given Down buffer = down ∷ []
given (Elapsed seconds) buffer = elapsed seconds ∷ []
given End buffer = []

-- the first event was octets that begin with this part, and what is left of them comes next
pub record GivesPart (part : List ℕ) (old new : List Event) : Type 0 where
  pub more : List ℕ
  pub later : List Event
  pub first : old ≡ octets (part ++ more) ∷ later
  pub rest : new ≡ with_more more later

-- a call gave the first event, or a first part of its octets, and took it away; the end comes exactly where none is
-- left
abbrev pub Gives : FeedEvent → List ℕ → List Event → List Event → Type 0
Gives Up buffer old new = old ≡ up ∷ new
Gives (Octets n) buffer old new = GivesPart (take n buffer) old new
Gives Down buffer old new = old ≡ down ∷ new
Gives (Elapsed seconds) buffer old new = old ≡ elapsed seconds ∷ new
Gives End buffer old new = (old ≡ []) × (new ≡ [])

-- where the events are told a call gives the first and leaves them told, and a failed call leaves them
abbrev pub GivesNext : {E : Type 0} → Option (List Event) → Option (List Event) → Result FeedEvent E → List ℕ → Type 0
GivesNext None new result buffer = Unit {0}
GivesNext (Some old) None result buffer = ⊥
GivesNext (Some old) (Some new) (Ok event) buffer = Gives event buffer old new
GivesNext (Some old) (Some new) (Err fault) buffer = new ≡ old

-- octets are at least one, and fit into the buffer
abbrev pub FitsBuffer : FeedEvent → List ℕ → Type 0
FitsBuffer Up buffer = Unit {0}
FitsBuffer (Octets n) buffer = (1 ≤ n) × (n ≤ length buffer)
FitsBuffer Down buffer = Unit {0}
FitsBuffer (Elapsed seconds) buffer = Unit {0}
FitsBuffer End buffer = Unit {0}

-- what a call gave fits into the buffer
abbrev pub GivesAtMost : {E : Type 0} → Result FeedEvent E → List ℕ → Type 0
GivesAtMost result buffer = IfOk result (λ event. FitsBuffer event buffer)

-- octets of the first event come as many as the buffer has room for
abbrev pub GivesMost : FeedEvent → List ℕ → List Event → Type 0
GivesMost (Octets n) buffer (octets piece ∷ later) = n ≡ min (length buffer) (length piece)
GivesMost event buffer old = Unit {0}

-- a piece that may be appended as one event has 1 to 65,535 octets
abbrev pub IsPiece : List ℕ → Type 0
IsPiece piece = (1 ≤ length piece) × (length piece ≤ 65535)
