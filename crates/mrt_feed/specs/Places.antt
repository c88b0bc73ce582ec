-- Where a feed stands in a recording: the events that are left there, and what moving on leaves. Our own choice.
use Rattle.std.specs.Prelude.{◌≡◌, ◌⊎◌, ℕ, ◌+◌, ◌-◌, ◌≤◌, Bool, false, ◌==◌, nat_lt, if◌then◌else◌, List, [], ◌∷◌, ◌++◌}
use Rattle.std.specs.Prelude.{length, take, drop, Option, Some, None, Result, Ok, Err, ◌<◌}
use Rattle.std.specs.Io.KnownBytes.{IsAtEnd}
use Rattle.urpf_base.specs.declared.address.Addr.{Addr}
use Rattle.feed_io.specs.Events.{Event, up, down, with_more}
use Rattle.mrt_feed.specs.MrtEvents.{events_from}
use Rattle.mrt_feed.specs.Records.{rest_in}
use Rattle.feed_io.specs.declared.limited.TheConstants.{FILE_OCTETS}
use Rattle.mrt_feed.specs.declared.progress.Due.{Due}
use Rattle.mrt_feed.specs.declared.progress.Due.TheVariants.{Up, Down, Octets}
use Rattle.mrt_feed.specs.declared.progress.Progress.{Progress}

-- what is behind so many octets; another answer where the text ends before
abbrev pub past : {X : Type 0} → X → ℕ → (List ℕ → X) → List ℕ → X
past short count more text = if nat_lt (length text) count then short else more (drop count text)

-- the events of octets in memory, of those that are owed, and of the records behind what is passed over
abbrev pub place_events : Addr → Progress → List ℕ → List Event
place_events peer place text =
    with_more (place.unsent ++ take place.owed text)
    (past [] place.owed (past [] place.skip (λ t. events_from peer place.link (place.head ++ t))) text)

-- nothing is behind the last whole record
abbrev pub is_whole : List ℕ → Bool
is_whole text = length (rest_in text) == 0

-- the recording ends with a whole record
abbrev pub ends_whole : Progress → List ℕ → Bool
ends_whole place text = past false place.owed (past false place.skip (λ t. is_whole (place.head ++ t))) text

-- from one place to the next these events are given, whatever octets come behind a piece that was read
pub record Goes (peer : Addr) (old : Progress) (piece : List ℕ) (new : Progress) (given : List Event) : Type 0 where
  pub events : (t : List ℕ) → place_events peer old (piece ++ t) ≡ given ++ place_events peer new t
  pub whole : (t : List ℕ) → ends_whole old (piece ++ t) ≡ ends_whole new t

-- a piece was read off the text, counted, and is no more than may be read
pub record Reads (text : List ℕ) (taken : ℕ) (piece rest : List ℕ) (count : ℕ) : Type 0 where
  pub parts : text ≡ piece ++ rest
  pub counted : count ≡ taken + length piece
  pub within : length piece ≤ FILE_OCTETS - taken

-- the same of a source, where it tells what is left
abbrev pub Ran : Addr → Option (List ℕ) → ℕ → Progress → Option (List ℕ) → ℕ → Progress → List Event → Type 0
Ran peer None taken old new count now given = Unit {0}
Ran peer (Some text) taken old None count now given = ⊥
Ran peer (Some text) taken old (Some rest) count now given =
    (piece : List ℕ) × Reads text taken piece rest count × Goes peer old piece now given

-- no octets are in memory or owed
pub record IsBetween (place : Progress) : Type 0 where
  pub unsent : place.unsent ≡ []
  pub owed : place.owed ≡ 0

-- and the head of a record comes next
pub record IsAtRecord (place : Progress) : Type 0 where
  pub unsent : place.unsent ≡ []
  pub owed : place.owed ≡ 0
  pub skip : place.skip ≡ 0

-- the event that is due, but for octets, which are given piece by piece
abbrev pub due_events : Option Due → List Event
due_events None = []
due_events (Some Up) = up ∷ []
due_events (Some Down) = down ∷ []
due_events (Some Octets) = []

-- the same of a call, which gives nothing where it fails
abbrev pub due_given : {E : Type 0} → Result (Option Due) E → List Event
due_given (Ok due) = due_events due
due_given (Err fault) = []

-- the recording ended with a whole record, and more might have been read
pub record IsEnded (place : Progress) (taken : ℕ) (left : Option (List ℕ)) : Type 0 where
  pub head : place.head ≡ []
  pub start : IsAtRecord place
  pub at_end : IsAtEnd left
  pub within : taken < FILE_OCTETS

-- no event is left, and the recording does not end with a whole record
pub record IsOff (peer : Addr) (place : Progress) (text : List ℕ) : Type 0 where
  pub none : place_events peer place text ≡ []
  pub off : ends_whole place text ≡ false

-- there is no event in the octets that may still be read, and the text goes on up to there at least
pub record NeedsMore (peer : Addr) (place : Progress) (taken : ℕ) (text : List ℕ) : Type 0 where
  pub beyond : FILE_OCTETS - taken ≤ length text
  pub none : place_events peer place (take (FILE_OCTETS - taken) text) ≡ []

-- no event can be given: the recording is off its format here, or more octets are needed than may be read
abbrev pub Stops : Addr → Progress → ℕ → List ℕ → Type 0
Stops peer place taken text = IsOff peer place text ⊎ NeedsMore peer place taken text

-- a feed went as far as it can: to where the recording is off its format, or to the last octet that may be read
abbrev pub Halts : Addr → Progress → ℕ → List ℕ → Type 0
Halts peer place taken text =
    IsOff peer place text ⊎ ((FILE_OCTETS ≤ taken) × (place_events peer place [] ≡ []))
