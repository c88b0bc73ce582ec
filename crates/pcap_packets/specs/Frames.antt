-- The packet in a captured frame, and the record of it.
use Rattle.std.specs.Prelude.{ℕ, ◌==◌, nat_lt, min, if◌then◌else◌, Bool, true, List, [], ◌∷◌, ◌++◌, length, take, drop}
use Rattle.std.specs.Prelude.{Option, Some, None}
use Rattle.byteorder.specs.Endian.{big_number, big_bytes}
use Rattle.feed_io.specs.declared.packet_source.TheConstants.{PACKET}
use Rattle.pcap_packets.specs.declared.formats.Link.{Link}
use Rattle.pcap_packets.specs.declared.formats.Link.TheVariants.{Ethernet, Raw}
use Rattle.pcap_packets.specs.declared.frames.TheConstants.{IPV4, IPV6, VLAN_TAG}

-- the types of packets of IPv4 and IPv6 (RFC 894; RFC 2464, section 3)
abbrev pub is_ip : ℕ → Bool
is_ip kind = if kind == IPV4 then true else kind == IPV6

-- behind a VLAN tag of four octets the type comes, and then the packet (IEEE 802.1Q, section 9)
abbrev pub tagged_offset : List ℕ → Option ℕ
tagged_offset frame =
    if nat_lt (length frame) 18 then None else if is_ip (big_number 2 (drop 16 frame)) then Some 18 else None

-- the packet, or a VLAN tag, stands behind the type (IEEE 802.3, section 3.1.1)
abbrev pub typed_offset : ℕ → List ℕ → Option ℕ
typed_offset kind frame =
    if is_ip kind then Some 14 else if kind == VLAN_TAG then tagged_offset frame else None

-- the type stands behind two addresses of six octets each (IEEE 802.3, section 3.1.1)
abbrev pub ethernet_offset : List ℕ → Option ℕ
ethernet_offset frame =
    if nat_lt (length frame) 14 then None else typed_offset (big_number 2 (drop 12 frame)) frame

-- how many octets of a frame stand before its packet; none where it holds none
abbrev pub packet_offset : Link → List ℕ → Option ℕ
packet_offset Ethernet frame = ethernet_offset frame
packet_offset Raw frame = Some 0

-- 01, the interface, the length and at most 60 octets; our own choice, as all packet records
abbrev pub packet_record : ℕ → List ℕ → List ℕ
packet_record iface packet =
    (PACKET ∷ big_bytes 2 iface ++ big_bytes 2 (min (length packet) 60)) ++ take 60 packet

-- the record of what stands behind so many octets
abbrev pub record_behind : ℕ → Option ℕ → List ℕ → List ℕ
record_behind iface None frame = []
record_behind iface (Some offset) frame = packet_record iface (drop offset frame)

-- the record of the packet in a frame, and nothing where it holds none
abbrev pub frame_record : Link → ℕ → List ℕ → List ℕ
frame_record link iface frame = record_behind iface (packet_offset link frame) frame
