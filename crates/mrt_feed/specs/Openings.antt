-- The OPEN and the KEEPALIVE that are made for a recorded session: recordings may begin within one. Our own choice, in
-- the form of RFC 4271, sections 4.2 and 4.4.
use Rattle.std.specs.Prelude.{ℕ, nat_lt, if◌then◌else◌, List, [], ◌∷◌, ◌++◌}
use Rattle.byteorder.specs.Endian.{big_bytes}
use Rattle.as_path.specs.declared.widths.Width.{Width}
use Rattle.as_path.specs.declared.widths.Width.TheVariants.{Two, Four}
use Rattle.feed_io.specs.Generated as bgp
use Rattle.mrt_feed.specs.declared.opening.TheConstants.{OPEN, KEEPALIVE, CAPABILITIES, MULTIPROTOCOL, FOUR_OCTET_AS, AS_TRANS}
use Rattle.mrt_feed.specs.declared.record_head.Sender.{Sender}

-- an AS number that does not fit into two octets is AS_TRANS there (RFC 6793, section 9)
abbrev pub two_octets : ℕ → ℕ
two_octets asn = if nat_lt 65535 asn then AS_TRANS else asn

-- the capability of IPv6 unicast: its code, AFI 2, a reserved octet, and SAFI 1 (RFC 4760, section 8)
abbrev pub ipv6_unicast : List ℕ
ipv6_unicast = MULTIPROTOCOL ∷ bgp.counted (0 ∷ 2 ∷ 0 ∷ 1 ∷ [])

-- and of four-octet AS numbers, where the record has them (RFC 6793, section 3)
abbrev pub wide_numbers : Width → ℕ → List ℕ
wide_numbers Two asn = []
wide_numbers Four asn = FOUR_OCTET_AS ∷ bgp.counted (big_bytes 4 asn)

-- version 4, My Autonomous System, a hold time of 0, the BGP Identifier 0.0.0.1, and one parameter, which lists the
-- capabilities (RFC 4271, section 4.2; RFC 5492, section 4)
abbrev pub open_message : Sender → List ℕ
open_message sender =
    bgp.message OPEN
    (4 ∷ big_bytes 2 (two_octets sender.asn) ++ (0 ∷ 0 ∷ 0 ∷ 0 ∷ 0 ∷ 1
    ∷ bgp.counted (CAPABILITIES ∷ bgp.counted (ipv6_unicast ++ wide_numbers sender.width sender.asn))))

-- both messages
abbrev pub session_opening : Sender → List ℕ
session_opening sender = open_message sender ++ bgp.message KEEPALIVE []
