-- Capture files as they are written, in either order of octets, and frames with a packet (pcap-savefile(5);
-- draft-ietf-opsawg-pcap, sections 4 and 5; IEEE 802.3, section 3.1.1; IEEE 802.1Q, section 9).
use Rattle.std.specs.Prelude.{◌≡◌, ◌⊎◌, ℕ, ◌≤◌, List, ◌++◌, length, All}
use Rattle.std.specs.List.{flat_map}
use Rattle.byteorder.specs.Endian.{big_bytes, little_bytes, big_number}
use Rattle.pcap_packets.specs.declared.formats.Format.{Format}
use Rattle.pcap_packets.specs.declared.formats.Link.{Link}
use Rattle.pcap_packets.specs.declared.formats.Order.{Order}
use Rattle.pcap_packets.specs.declared.formats.Order.TheVariants.{BigEndian, LittleEndian}
use Rattle.pcap_packets.specs.declared.formats.TheConstants.{MICROSECONDS, NANOSECONDS, ETHERNET, RAW_IP}
use Rattle.pcap_packets.specs.declared.frames.TheConstants.{IPV4, IPV6, VLAN_TAG}
use Rattle.pcap_packets.specs.declared.part.TheConstants.{CAPTURED_OCTETS}

-- a captured frame, with its time and the length that it had on the link
pub record Captured : Type 0 where
  pub seconds : ℕ
  pub fraction : ℕ
  pub original : ℕ
  pub frame : List ℕ

-- what a capture file holds: the numbers of its header, and the captured frames
pub record Capture : Type 0 where
  pub magic : ℕ
  pub major : ℕ
  pub minor : ℕ
  pub zone : ℕ
  pub accuracy : ℕ
  pub snapped : ℕ
  pub link : ℕ
  pub captured : List Captured

-- so many octets of a number, in this order
abbrev pub ordered_octets : Order → ℕ → ℕ → List ℕ
ordered_octets BigEndian count number = big_bytes count number
ordered_octets LittleEndian count number = little_bytes count number

-- a header, number by number
abbrev pub header_octets : Order → Capture → List ℕ
header_octets order c =
    ordered_octets order 4 c.magic ++ (ordered_octets order 2 c.major ++ (ordered_octets order 2 c.minor
    ++ (ordered_octets order 4 c.zone ++ (ordered_octets order 4 c.accuracy ++ (ordered_octets order 4 c.snapped
    ++ ordered_octets order 4 c.link)))))

-- a record: its time, both lengths, and the frame, whose octets have no order of their own
abbrev pub captured_octets : Order → Captured → List ℕ
captured_octets order r =
    (ordered_octets order 4 r.seconds ++ ordered_octets order 4 r.fraction)
    ++ (ordered_octets order 4 (length r.frame) ++ (ordered_octets order 4 r.original ++ r.frame))

-- the file in this order
abbrev pub file_octets : Order → Capture → List ℕ
file_octets order c = header_octets order c ++ flat_map (captured_octets order) c.captured

-- a file that is read: its magic and its link are known, and no frame is too long
pub record IsReadable (c : Capture) : Type 0 where
  pub magic : (c.magic ≡ MICROSECONDS) ⊎ (c.magic ≡ NANOSECONDS)
  pub link : (c.link ≡ ETHERNET) ⊎ (c.link ≡ RAW_IP)
  pub frames : All (λ r. length r.frame ≤ CAPTURED_OCTETS) c.captured

-- two octets are the type of packets of IPv4 or IPv6
abbrev pub IsIpType : List ℕ → Type 0
IsIpType kind = (length kind ≡ 2) × ((big_number 2 kind ≡ IPV4) ⊎ (big_number 2 kind ≡ IPV6))

-- an Ethernet frame with this packet: two addresses, the type, and the packet
pub record IsFramed (frame packet : List ℕ) : Type 0 where
  pub addresses : List ℕ
  pub kind : List ℕ
  pub twelve : length addresses ≡ 12
  pub ip : IsIpType kind
  pub parts : frame ≡ addresses ++ (kind ++ packet)

-- one with a VLAN tag: two addresses, the type of a tag, the tag, the type, and the packet
pub record IsTagged (frame packet : List ℕ) : Type 0 where
  pub addresses : List ℕ
  pub mark : List ℕ
  pub tag : List ℕ
  pub kind : List ℕ
  pub twelve : length addresses ≡ 12
  pub two : (length mark ≡ 2) × (length tag ≡ 2)
  pub tagged : big_number 2 mark ≡ VLAN_TAG
  pub ip : IsIpType kind
  pub parts : frame ≡ addresses ++ (mark ++ (tag ++ (kind ++ packet)))

-- a frame in which a packet of IPv4 or IPv6 stands, with a VLAN tag or without
abbrev pub HasPacket : List ℕ → List ℕ → Type 0
HasPacket frame packet = IsFramed frame packet ⊎ IsTagged frame packet

-- a format, by its two parts
abbrev pub format_in : Order → Link → Format
format_in order link = record { order = order; link = link }
