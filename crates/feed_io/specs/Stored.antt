-- How a feed in memory stands for its events.
use Rattle.std.specs.Prelude.{◌<◌, vec_len}
use Rattle.feed_io.specs.Events.{Event, up, octets, down, elapsed}
use Rattle.feed_io.specs.declared.memory_feeds.Entry.{Entry}
use Rattle.feed_io.specs.declared.memory_feeds.Entry.TheVariants.{Up, Octets, Down, Elapsed}

-- the event that an entry stands for
abbrev pub event_of : Entry → Event
event_of Up = up
event_of (Octets piece) = octets piece.items
event_of Down = down
event_of (Elapsed seconds) = elapsed seconds

-- an entry of octets has at least one
abbrev pub IsEntry : Entry → Type 0
IsEntry Up = Unit {0}
IsEntry (Octets piece) = 0 < vec_len piece
IsEntry Down = Unit {0}
IsEntry (Elapsed seconds) = Unit {0}
