-- The header of a capture file (pcap-savefile(5); draft-ietf-opsawg-pcap, section 4).
use Rattle.std.specs.Prelude.{ℕ, ◌==◌, if◌then◌else◌, Bool, true, List, drop, Option, Some, None}
use Rattle.byteorder.specs.Endian.{big_number, little_number}
use Rattle.pcap_packets.specs.declared.formats.Order.{Order}
use Rattle.pcap_packets.specs.declared.formats.Order.TheVariants.{BigEndian, LittleEndian}
use Rattle.pcap_packets.specs.declared.formats.Link.{Link}
use Rattle.pcap_packets.specs.declared.formats.Link.TheVariants.{Ethernet, Raw}
use Rattle.pcap_packets.specs.declared.formats.Format.{Format}
use Rattle.pcap_packets.specs.declared.formats.TheConstants.{MICROSECONDS, NANOSECONDS, ETHERNET, RAW_IP}

-- the number in the first four octets, by the order in which they stand
abbrev pub number_in : Order → List ℕ → ℕ
number_in BigEndian octets = big_number 4 octets
number_in LittleEndian octets = little_number 4 octets

-- a capture file begins with one of two numbers
abbrev pub is_magic : ℕ → Bool
is_magic number = if number == MICROSECONDS then true else number == NANOSECONDS

-- the order in which a header begins with one of them
abbrev pub order_of : List ℕ → Option Order
order_of header =
    if is_magic (number_in BigEndian header) then Some BigEndian else
    if is_magic (number_in LittleEndian header) then Some LittleEndian else None

-- the links that are read, by their types (the tcpdump group's registry of link-layer header types)
abbrev pub link_of : ℕ → Option Link
link_of number = if number == ETHERNET then Some Ethernet else if number == RAW_IP then Some Raw else None

-- frames of this link, in a file of this order
abbrev pub with_link : Order → Option Link → Option Format
with_link order None = None
with_link order (Some link) = Some (record { order = order; link = link })

-- the link stands in the last four octets of a header, in the order of the file
abbrev pub in_order : Option Order → List ℕ → Option Format
in_order None header = None
in_order (Some order) header = with_link order (link_of (number_in order (drop 20 header)))

-- what a header says; none where its magic or its link is another one
abbrev pub format_of : List ℕ → Option Format
format_of header = in_order (order_of header) header
