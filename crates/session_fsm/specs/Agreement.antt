-- What both sides of a session agree on by the OPEN of the peer (RFC 4271, section 4.2; RFC 6793, section 4.1).
use Rattle.std.specs.Prelude.{ℕ, min, Bool, if◌then◌else◌}
use Rattle.as_path.specs.declared.widths.Width.{Width}
use Rattle.as_path.specs.declared.widths.Width.TheVariants.{Two, Four}
use Rattle.bgp_open.specs.declared.opening.OpenSeen.{OpenSeen}
use Rattle.urpf_base.specs.declared.sessions.SessionConfig.{SessionConfig}
use Rattle.session_fsm.specs.declared.states.Peer.{Peer}

-- the hold time is the lesser of the one configured and the peer's, so 0 where either is 0 (RFC 4271, section 4.2)
abbrev pub agreed_hold : SessionConfig → OpenSeen → ℕ
agreed_hold config seen = min config.hold seen.hold

-- AS numbers have four octets where the peer sent the capability, and else two (RFC 6793, section 4.1)
abbrev pub agreed_width : Bool → Width
agreed_width four_octet = if four_octet then Four else Two

-- how the UPDATEs of the peer are read
abbrev pub agreed_peer : OpenSeen → Peer
agreed_peer seen = record { width = agreed_width seen.four_octet; v6 = seen.v6 }
