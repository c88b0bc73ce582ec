-- What contracts see of a feed over a recording. Our own choice.
use Rattle.std.specs.Prelude.{ℕ, Bool, List, Option}
use Rattle.std.specs.Option.{option_map}
use Rattle.urpf_base.specs.declared.address.Addr.{Addr}
use Rattle.feed_io.specs.Events.{Event}
use Rattle.mrt_feed.specs.Places.{place_events}
use Rattle.mrt_feed.specs.declared.progress.Progress.{Progress}

-- a source, how many of its octets were read, the peer whose session is fed, the place in the recording, whether a call
-- failed, and how many did
pub record MrtState (S : Type 0) : Type 0 where
  pub source : S
  pub taken : ℕ
  pub peer : Addr
  pub place : Progress
  pub failed : Bool
  pub faults : ℕ

-- the events at a place before what the source has left, where that is told
abbrev pub events_left : Addr → Progress → Option (List ℕ) → Option (List Event)
events_left peer place left = option_map (place_events peer place) left
