-- How long the messages are (RFC 4271, sections 4.2 to 4.5).
use Rattle.std.specs.Prelude.{ℕ}
use Rattle.bgp_wire.specs.declared.kinds.MsgKind.{MsgKind}
use Rattle.bgp_wire.specs.declared.kinds.MsgKind.TheVariants.{Open, Update, Notification, Keepalive}

-- a message of this kind has at least so many octets, header and all (RFC 4271, sections 4.2, 4.3, 4.5 and 4.4)
abbrev pub least_length : MsgKind → ℕ
least_length Open = 29
least_length Update = 23
least_length Notification = 21
least_length Keepalive = 19
