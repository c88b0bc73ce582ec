-- A stream is whole messages one after the other, a rest and how it ends (RFC 4271, section 4.1).
use Rattle.std.specs.Prelude.{◌≡◌, ◌⊎◌, ℕ, ◌<◌, ◌≤◌, List, ◌++◌, length, Some, None}
use Rattle.std.specs.List.{concat, AllByRecursion}
use Rattle.bgp_wire.specs.Header.{header_fault, length_field}

-- a whole message: a header with no fault, and as many octets as its length field says
pub record IsMessage (octets : List ℕ) : Type 0 where
  pub header : 19 ≤ length octets
  pub good : header_fault octets ≡ None
  pub whole : length octets ≡ length_field octets

-- more octets may come: the header is not whole, or it has no fault and the message is not whole
abbrev pub IsShort : List ℕ → Type 0
IsShort octets = (length octets < 19) ⊎ ((header_fault octets ≡ None) × (length octets < length_field octets))

-- the header is whole, and this is its first fault
pub record IsFaulty (octets : List ℕ) (subcode : ℕ) : Type 0 where
  pub header : 19 ≤ length octets
  pub fault : header_fault octets ≡ Some subcode

-- how a stream ends: with a message that is not whole, or with a header fault
pub data End : Type 0 where
  Clean : End
  Fault : ℕ → End

-- the rest behind the last whole message is of this end
abbrev pub EndsAs : List ℕ → End → Type 0
EndsAs rest Clean = IsShort rest
EndsAs rest (Fault subcode) = IsFaulty rest subcode

-- the stream is these messages one after the other, and then the rest, which ends it so
pub record Frames (stream : List ℕ) (messages : List (List ℕ)) (rest : List ℕ) (end : End) : Type 0 where
  pub parts : stream ≡ concat messages ++ rest
  pub each : AllByRecursion IsMessage messages
  pub ends : EndsAs rest end

-- a way to see the stream as messages, a rest and an end
pub record Framing (stream : List ℕ) : Type 0 where
  pub messages : List (List ℕ)
  pub rest : List ℕ
  pub end : End
  pub framed : Frames stream messages rest end
