-- Packet records: packets with the numbers of their interfaces, and markers between rounds. Our own choice.
use Rattle.std.specs.Prelude.{◌≡◌, ℕ, ◌<◌, ◌==◌, nat_lt, if◌then◌else◌, List, [], ◌∷◌, ◌++◌, length, take, drop}
use Rattle.std.specs.Prelude.{Option, Some, None}
use Rattle.byteorder.specs.Endian.{big_number}
use Rattle.urpf_base.specs.Series.{values_in}
use Rattle.feed_io.specs.declared.packet_source.TheConstants.{PACKET, MARKER}

-- a packet with the number of its interface and its octets, or a marker
pub data PacketRecord : Type 0 where
  packet : ℕ → List ℕ → PacketRecord
  marker : PacketRecord

-- so many octets of a packet; none where the text ends before
abbrev pub octets_front : ℕ → ℕ → List ℕ → Option (PacketRecord × List ℕ)
octets_front iface count text =
    if nat_lt (length text) count then None else Some (packet iface (take count text), drop count text)

-- the interface, the length and the octets of a packet; none where the text ends before
abbrev pub packet_front : List ℕ → Option (PacketRecord × List ℕ)
packet_front text =
    if nat_lt (length text) 4 then None
    else octets_front (big_number 2 text) (big_number 2 (drop 2 text)) (drop 4 text)

-- the record that this first octet begins
abbrev pub coded_front : ℕ → List ℕ → Option (PacketRecord × List ℕ)
coded_front code text =
    if code == PACKET then packet_front text else
    if code == MARKER then Some (marker, text) else None

-- the first record of a text and the octets behind it; none where it is broken or the text is empty
abbrev pub record_front : List ℕ → Option (PacketRecord × List ℕ)
record_front [] = None
record_front (code ∷ text) = coded_front code text

-- the records of a text up to its end, or to where it is broken
abbrev pub records_in : List ℕ → List PacketRecord
records_in text = values_in record_front text

-- the text begins with these records, and then the rest
abbrev pub BeginsWith : List ℕ → List PacketRecord → List ℕ → Type 0
BeginsWith text [] rest = text ≡ rest
BeginsWith text (r ∷ records) rest = (more : List ℕ) × (record_front text ≡ Some (r, more)) × BeginsWith more records rest

-- a packet: its first octet, the number of its interface and its length in two octets each, and its octets
pub record SpellsPacket (text : List ℕ) (iface : ℕ) (octets : List ℕ) : Type 0 where
  pub number : List ℕ
  pub count : List ℕ
  pub two : (length number ≡ 2) × (length count ≡ 2)
  pub iface_is : iface ≡ big_number 2 number
  pub count_is : length octets ≡ big_number 2 count
  pub parts : text ≡ PACKET ∷ number ++ (count ++ octets)

-- the text is the spelling of this one record
abbrev pub SpellsRecord : List ℕ → PacketRecord → Type 0
SpellsRecord text (packet iface octets) = SpellsPacket text iface octets
SpellsRecord text marker = text ≡ MARKER ∷ []

-- the text is not at its end, and no record begins it
pub record IsBroken (text : List ℕ) : Type 0 where
  pub some : 0 < length text
  pub none : record_front text ≡ None
