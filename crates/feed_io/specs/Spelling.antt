-- How the events of a trace are spelled. Our own choice.
use Rattle.std.specs.Prelude.{◌≡◌, ℕ, ◌<◌, List, [], ◌∷◌, ◌++◌, length}
use Rattle.byteorder.specs.Endian.{big_number}
use Rattle.feed_io.specs.Events.{Event, up, octets, down, elapsed}
use Rattle.feed_io.specs.declared.trace_head.TheConstants.{UP, OCTETS, DOWN, ELAPSED}

-- an event of octets: its first octet, its length in two octets, and the octets that are there
pub record SpellsPiece (text : List ℕ) (count : ℕ) (piece : List ℕ) : Type 0 where
  pub field : List ℕ
  pub two : length field ≡ 2
  pub count_is : count ≡ big_number 2 field
  pub parts : text ≡ OCTETS ∷ field ++ piece

-- seconds: their first octet, and their number in four octets
pub record SpellsSeconds (text : List ℕ) (seconds : ℕ) : Type 0 where
  pub field : List ℕ
  pub four : length field ≡ 4
  pub seconds_are : seconds ≡ big_number 4 field
  pub parts : text ≡ ELAPSED ∷ field

-- the text is the spelling of this one event
abbrev pub SpellsEvent : List ℕ → Event → Type 0
SpellsEvent text up = text ≡ UP ∷ []
SpellsEvent text (octets piece) = SpellsPiece text (length piece) piece × (0 < length piece)
SpellsEvent text down = text ≡ DOWN ∷ []
SpellsEvent text (elapsed seconds) = SpellsSeconds text seconds
