-- The messages that an item may be (RFC 4271, section 4).
use Rattle.std.specs.Prelude.{ℕ, ◌+◌, ◌≤◌, List, length, slice_index}
use Rattle.bgp_wire.specs.declared.kinds.MsgKind.{MsgKind}
use Rattle.bgp_wire.specs.Lengths.{least_length}
use Rattle.urpf_base.specs.declared.sessions.ResetCause.{ResetCause}
use Rattle.urpf_base.specs.declared.sessions.ResetCause.TheVariants.{Notified}
use Rattle.session_fsm.specs.declared.items.Item.{Item}
use Rattle.session_fsm.specs.declared.items.Item.TheVariants.{Up, Message, HeaderFault, Down, Elapsed}

-- with 19 octets of a header in front, so many are a message of the kind at least (RFC 4271, sections 4.1 to 4.5)
abbrev pub HasLeast : MsgKind → ℕ → Type 0
HasLeast kind count = least_length kind ≤ 19 + count

-- an item that is a message is one of at least the length of its kind
abbrev pub IsWhole : Item → Type 0
IsWhole Up = Unit {0}
IsWhole (Message kind body) = HasLeast kind (length body.now)
IsWhole (HeaderFault sub) = Unit {0}
IsWhole Down = Unit {0}
IsWhole (Elapsed seconds) = Unit {0}

-- the peer ended the session with this code and subcode (RFC 4271, section 4.5)
abbrev pub notice : List ℕ → ResetCause
notice body = Notified (slice_index body 0) (slice_index body 1)
