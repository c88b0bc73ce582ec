-- What contracts see of sources, sinks and feeds in memory, and of a file. Our own choice.
use Rattle.std.specs.Prelude.{◌≡◌, ℕ, ◌+◌, ◌-◌, ◌^◌, min, List, Result, OnErr}
use Rattle.feed_io.specs.Events.{Event}

-- the calls that fail, by their numbers from 1, how many calls there were, and how many failed
pub record Schedule : Type 0 where
  pub fails : List ℕ
  pub calls : ℕ
  pub faults : ℕ

-- no call was made yet
abbrev pub no_calls : List ℕ → Schedule
no_calls fails = record { fails = fails; calls = 0; faults = 0 }

-- a count of 64 bits goes up by one, and stands still at its last value
abbrev pub counted_up : ℕ → ℕ
counted_up n = min (n + 1) (2 ^ 64 - 1)

-- one more call was counted, and its error too where it ended with one; the list stays
pub record CountsCall {T E : Type 0} (old new : Schedule) (result : Result T E) : Type 0 where
  pub calls : new.calls ≡ counted_up old.calls
  pub err : OnErr result (new.faults ≡ counted_up old.faults)
  pub fails : new.fails ≡ old.fails

-- the octets that a source in memory has left, and which calls fail
pub record StoredText : Type 0 where
  pub left : List ℕ
  pub schedule : Schedule

-- the octets that a sink in memory took, the most that it takes, and which calls fail
pub record StoredOutput : Type 0 where
  pub held : List ℕ
  pub room : ℕ
  pub schedule : Schedule

-- the events that a feed in memory has left, and which calls fail
pub record StoredEvents : Type 0 where
  pub left : List Event
  pub schedule : Schedule

-- the path of a file, and how many calls of it failed
pub record NamedFile : Type 0 where
  pub path : List ℕ
  pub faults : ℕ
