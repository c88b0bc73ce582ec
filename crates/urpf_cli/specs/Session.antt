-- What the stream of an established session says, and where it cannot be read (RFC 4271, sections 4 and 6).
use Rattle.std.specs.Prelude.{◌≡◌, ◌⊎◌, ℕ, ◌+◌, ◌≤◌, true, List, [], ◌∷◌, ◌++◌, length, drop, Option, Some, None}
use Rattle.urpf_base.specs.RouteUpdates.{RouteUpdate}
use Rattle.bgp_wire.specs.Header.{type_field}
use Rattle.bgp_wire.specs.Frames.{Frames, End, Clean, Fault}
use Rattle.bgp_wire.specs.States.{kind_of}
use Rattle.bgp_wire.specs.declared.kinds.MsgKind.{MsgKind}
use Rattle.bgp_wire.specs.declared.kinds.MsgKind.TheVariants.{Open, Update, Notification, Keepalive}
use Rattle.as_path.specs.declared.widths.Width.TheVariants.{Four}
use Rattle.urpf_cli.specs.declared.check.TheConstants.{STREAM_OCTETS}
use Rattle.urpf_cli.specs.declared.session.SessionFault.{SessionFault}
use Rattle.urpf_cli.specs.declared.session.SessionFault.TheVariants.{Header, Unsupported, OutOfMemory}
use Rattle.urpf_cli.specs.declared.session.SessionFault.TheVariants as fault
use Rattle.bgp_update.specs.Faults.{IsFaultOf}
use Rattle.bgp_update.specs.Update.{IsUpdate}

-- a message of this kind and body is a KEEPALIVE, which says nothing, or an UPDATE without a fault, which says this;
-- the peer has AS numbers of four octets and listed IPv6 unicast
abbrev pub SaysBy : MsgKind → List ℕ → Option RouteUpdate → Type 0
SaysBy kind body None = kind ≡ Keepalive
SaysBy kind body (Some update) = (kind ≡ Update) × IsUpdate Four true body update

-- a message of this kind and body is an UPDATE with a fault of this subcode (RFC 4271, section 6.3)
abbrev pub FailsBy : MsgKind → List ℕ → ℕ → Type 0
FailsBy kind body sub = (kind ≡ Update) × IsFaultOf Four true body sub

-- a message of this kind is none that an established session is read for here
abbrev pub IsUnsupported : MsgKind → Type 0
IsUnsupported kind = (kind ≡ Open) ⊎ (kind ≡ Notification)

-- the octets of a whole message say this
abbrev pub Says : List ℕ → Option RouteUpdate → Type 0
Says message said = SaysBy (kind_of (type_field message)) (drop 19 message) said

-- the messages say this, each in its turn
abbrev pub SayAll : List (List ℕ) → List (Option RouteUpdate) → Type 0
SayAll [] [] = Unit {0}
SayAll [] (s ∷ said) = ⊥
SayAll (m ∷ messages) [] = ⊥
SayAll (m ∷ messages) (s ∷ said) = Says m s × SayAll messages said

-- the UPDATEs among what was said
abbrev pub updates_of : List (Option RouteUpdate) → List RouteUpdate
updates_of [] = []
updates_of (None ∷ said) = updates_of said
updates_of (Some update ∷ said) = update ∷ updates_of said

-- the stream is messages that say this, and the rest is a message that is not whole
pub record IsRead (stream : List ℕ) (said : List (Option RouteUpdate)) (rest : List ℕ) : Type 0 where
  pub messages : List (List ℕ)
  pub framed : Frames stream messages rest Clean
  pub say : SayAll messages said

-- the header of the message at this place, counted from 1, has this fault, and all messages before it can be read
pub record IsFaultAt (stream : List ℕ) (subcode place : ℕ) : Type 0 where
  pub messages : List (List ℕ)
  pub said : List (Option RouteUpdate)
  pub rest : List ℕ
  pub framed : Frames stream messages rest (Fault subcode)
  pub say : SayAll messages said
  pub counted : place ≡ length messages + 1

-- the message at this place, counted from 1, stops the reading, for a reason in its kind and its body, and all messages
-- before it can be read
pub record StopsAt (stream : List ℕ) (place : ℕ) (Reason : MsgKind → List ℕ → Type 0) : Type 0 where
  pub before : List (List ℕ)
  pub message : List ℕ
  pub after : List (List ℕ)
  pub said : List (Option RouteUpdate)
  pub rest : List ℕ
  pub end : End
  pub framed : Frames stream (before ++ message ∷ after) rest end
  pub say : SayAll before said
  pub reason : Reason (kind_of (type_field message)) (drop 19 message)
  pub counted : place ≡ length before + 1

-- it is an UPDATE with a fault of this subcode
abbrev pub IsBadUpdateAt : List ℕ → ℕ → ℕ → Type 0
IsBadUpdateAt stream subcode place = StopsAt stream place (λ kind body. FailsBy kind body subcode)

-- it is an OPEN or a NOTIFICATION
abbrev pub IsUnsupportedAt : List ℕ → ℕ → Type 0
IsUnsupportedAt stream place = StopsAt stream place (λ kind body. IsUnsupported kind)

-- the stream is messages that say this, and so many octets are left after them
pub record Leaves (stream : List ℕ) (said : List (Option RouteUpdate)) (rest : ℕ) : Type 0 where
  pub octets : List ℕ
  pub read : IsRead stream said octets
  pub left : rest ≡ length octets

-- the stream is not too long, at most 16 MiB
abbrev pub IsShortEnough : List ℕ → Type 0
IsShortEnough stream = length stream ≤ STREAM_OCTETS

-- the first message that cannot be read is this one, for this reason
abbrev pub HasFault : List ℕ → SessionFault → Type 0
HasFault stream (Header sub place) = IsFaultAt stream sub place
HasFault stream (fault.Update sub place) = IsBadUpdateAt stream sub place
HasFault stream (Unsupported place) = IsUnsupportedAt stream place
HasFault stream OutOfMemory = ⊥
