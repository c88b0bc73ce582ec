-- The records of a capture file (pcap-savefile(5); draft-ietf-opsawg-pcap, sections 3 to 5).
use Rattle.std.specs.Prelude.{◌≡◌, ℕ, ◌≤◌, nat_lt, if◌then◌else◌, List, [], ◌++◌, length, take, drop, Option, Some, None}
use Rattle.std.specs.List.{flat_map}
use Rattle.urpf_base.specs.Series.{values_in, SpellsAll}
use Rattle.pcap_packets.specs.Formats.{number_in, format_of}
use Rattle.pcap_packets.specs.Frames.{frame_record}
use Rattle.pcap_packets.specs.declared.formats.Order.{Order}
use Rattle.pcap_packets.specs.declared.formats.Format.{Format}
use Rattle.pcap_packets.specs.declared.part.TheConstants.{CAPTURED_OCTETS}

-- a record is two times of four octets each, the captured length and the original one, and the captured octets
pub record SpellsFrame (order : Order) (one frame : List ℕ) : Type 0 where
  pub time : List ℕ
  pub captured : List ℕ
  pub original : List ℕ
  pub eight : length time ≡ 8
  pub four : (length captured ≡ 4) × (length original ≡ 4)
  pub captured_is : length frame ≡ number_in order captured
  pub most : length frame ≤ CAPTURED_OCTETS
  pub parts : one ≡ time ++ (captured ++ (original ++ frame))

-- the text is a header of 24 octets that says this, and records with these frames
pub record IsCapture (text : List ℕ) (format : Format) (frames : List (List ℕ)) : Type 0 where
  pub header : 24 ≤ length text
  pub says : format_of text ≡ Some format
  pub records : SpellsAll (SpellsFrame format.order) (drop 24 text) frames

-- so many captured octets, at most 262,144; none where the text ends before
abbrev pub captured_front : ℕ → List ℕ → Option (List ℕ × List ℕ)
captured_front count text =
    if nat_lt CAPTURED_OCTETS count then None
    else if nat_lt (length text) count then None else Some (take count text, drop count text)

-- the frame of the first record of a text, and the octets behind it; none where the text begins with no record
abbrev pub frame_front : Order → List ℕ → Option (List ℕ × List ℕ)
frame_front order text =
    if nat_lt (length text) 16 then None else captured_front (number_in order (drop 8 text)) (drop 16 text)

-- the frames of records up to the end of a text, or to where it begins with no record
abbrev pub frames_in : Order → List ℕ → List (List ℕ)
frames_in order text = values_in (frame_front order) text

-- the packet records of the frames behind a header that says this
abbrev pub records_behind : Option Format → ℕ → List ℕ → List ℕ
records_behind None iface text = []
records_behind (Some format) iface text = flat_map (frame_record format.link iface) (frames_in format.order text)

-- the packet records of a capture file, one frame after the other
abbrev pub pcap_records : List ℕ → ℕ → List ℕ
pcap_records text iface =
    if nat_lt (length text) 24 then [] else records_behind (format_of text) iface (drop 24 text)
