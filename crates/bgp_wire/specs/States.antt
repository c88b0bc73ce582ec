-- What a framer holds, and of what kind a whole message is (RFC 4271, sections 4.1 to 4.5).
use Rattle.std.specs.Prelude.{◌≡◌, ℕ, ◌<◌, ◌≤◌, ◌==◌, if◌then◌else◌, List, length, None}
use Rattle.bgp_wire.specs.Header.{header_fault, length_field, type_field}
use Rattle.bgp_wire.specs.Frames.{IsMessage, IsShort, IsFaulty}
use Rattle.bgp_wire.specs.Lengths.{least_length}
use Rattle.bgp_wire.specs.declared.header.TheConstants.{OPEN, UPDATE, NOTIFICATION}
use Rattle.bgp_wire.specs.declared.kinds.MsgKind.{MsgKind}
use Rattle.bgp_wire.specs.declared.kinds.MsgKind.TheVariants.{Open, Update, Notification, Keepalive}
use Rattle.bgp_wire.specs.declared.kinds.FrameState.{FrameState}
use Rattle.bgp_wire.specs.declared.kinds.FrameState.TheVariants.{Partial, Whole, Fault}

-- the kind of a message whose type octet is good (RFC 4271, section 4.1)
abbrev pub kind_of : ℕ → MsgKind
kind_of code =
    if code == OPEN then Open else if code == UPDATE then Update else
    if code == NOTIFICATION then Notification else Keepalive

-- the octets held are a part of a message, a whole one, or begin with a faulty header
abbrev pub IsState : List ℕ → FrameState → Type 0
IsState held (Partial count) = IsShort held × (count ≡ length held)
IsState held (Whole kind) = IsMessage held × (kind ≡ kind_of (type_field held))
IsState held (Fault subcode) = IsFaulty held subcode

-- a message of this kind may have so many octets: a KEEPALIVE has no others (RFC 4271, section 4.4)
abbrev pub FitsKind : MsgKind → ℕ → Type 0
FitsKind Open count = least_length Open ≤ count
FitsKind Update count = least_length Update ≤ count
FitsKind Notification count = least_length Notification ≤ count
FitsKind Keepalive count = count ≡ least_length Keepalive

-- where the state is that of a whole message, it is as long as its kind asks
abbrev pub IsLongEnough : List ℕ → FrameState → Type 0
IsLongEnough held (Partial count) = Unit {0}
IsLongEnough held (Whole kind) = FitsKind kind (length held)
IsLongEnough held (Fault subcode) = Unit {0}

-- no octet is held past a message or past a faulty header, and none past 4096
pub record IsBuffered (held : List ℕ) : Type 0 where
  pub within : length held ≤ 4096
  pub good : 19 < length held → header_fault held ≡ None
  pub upto : 19 < length held → length held ≤ length_field held

-- octets may be taken up to so many: a header whatever it is, and behind a good one its message
pub record MayFill (held : List ℕ) (upto : ℕ) : Type 0 where
  pub within : upto ≤ 4096
  pub header : 19 < upto → 19 ≤ length held
  pub good : 19 < upto → header_fault held ≡ None
  pub message : 19 < upto → upto ≤ length_field held
