-- What a feed gave in one call, and the octets that came with it. Our own choice.
use Rattle.std.specs.Prelude.{◌≡◌, ℕ, ◌<◌, ◌≤◌, List, [], ◌∷◌, ◌++◌, length, Option, Some, None, Result, Ok, Err}
use Rattle.urpf_base.specs.declared.outside.Failed.{Failed}
use Rattle.feed_io.specs.Events.{Event, up, octets, down, elapsed}
use Rattle.feed_io.specs.declared.feeds.FeedEvent.{FeedEvent}
use Rattle.feed_io.specs.declared.feeds.FeedEvent.TheVariants.{Up, Octets, Down, Elapsed, End}
use Rattle.control_core.specs.Items.{SameButCuts}

-- the event that a feed gave, where these octets came with it; none at its end, and none where it failed
abbrev pub event_of : Result FeedEvent Failed → List ℕ → List Event
event_of (Ok Up) piece = up ∷ []
event_of (Ok (Octets count)) piece = octets piece ∷ []
event_of (Ok Down) piece = down ∷ []
event_of (Ok (Elapsed seconds)) piece = elapsed seconds ∷ []
event_of (Ok End) piece = []
event_of (Err failed) piece = []

-- where a feed tells its events, those that it gave and those that are left are those that it had, but for cuts; it
-- tells them still
abbrev pub Gave : Option (List Event) → List Event → Option (List Event) → Type 0
Gave None events new = Unit {0}
Gave (Some old) events None = ⊥
Gave (Some old) events (Some new) = SameButCuts old (events ++ new)

-- where a feed told its events, it tells now that none is left
abbrev pub IsEmptied : Option (List Event) → Option (List Event) → Type 0
IsEmptied None new = Unit {0}
IsEmptied (Some old) new = new ≡ Some []

-- the end comes exactly where no event is left
abbrev pub EndsThere : Option (List Event) → Option (List Event) → Result FeedEvent Failed → Type 0
EndsThere None new result = Unit {0}
EndsThere (Some old) new (Ok Up) = old ≡ [] → ⊥
EndsThere (Some old) new (Ok (Octets count)) = old ≡ [] → ⊥
EndsThere (Some old) new (Ok Down) = old ≡ [] → ⊥
EndsThere (Some old) new (Ok (Elapsed seconds)) = old ≡ [] → ⊥
EndsThere (Some old) new (Ok End) = (old ≡ []) × (new ≡ Some [])
EndsThere (Some old) new (Err failed) = Unit {0}

-- octets stand there exactly where some came
abbrev pub HasOctets : Result FeedEvent Failed → List ℕ → Type 0
HasOctets (Ok Up) piece = piece ≡ []
HasOctets (Ok (Octets count)) piece = length piece ≡ count
HasOctets (Ok Down) piece = piece ≡ []
HasOctets (Ok (Elapsed seconds)) piece = piece ≡ []
HasOctets (Ok End) piece = piece ≡ []
HasOctets (Err failed) piece = piece ≡ []

-- a call gave an event, and the octets that came with it
pub record Fills (old new : Option (List Event)) (result : Result FeedEvent Failed) (piece : List ℕ) : Type 0 where
  pub gave : Gave old (event_of result piece) new
  pub ends : EndsThere old new result
  pub has : HasOctets result piece

-- an event of octets has one at least, and no more than there is room for
abbrev pub FitsRoom : Result FeedEvent Failed → ℕ → Type 0
FitsRoom (Ok Up) room = Unit {0}
FitsRoom (Ok (Octets count)) room = (0 < count) × (count ≤ room)
FitsRoom (Ok Down) room = Unit {0}
FitsRoom (Ok (Elapsed seconds)) room = Unit {0}
FitsRoom (Ok End) room = Unit {0}
FitsRoom (Err failed) room = Unit {0}
