-- What a reader of a capture file has left to give, and where it can go no further. Our own choice.
use Rattle.std.specs.Prelude.{◌≡◌, ◌⊎◌, ℕ, ◌+◌, ◌-◌, ◌<◌, ◌≤◌, nat_lt, if◌then◌else◌, Bool, List, [], ◌++◌, length}
use Rattle.std.specs.Prelude.{take, drop, Option, Some, None}
use Rattle.std.specs.Option.{option_map}
use Rattle.urpf_base.specs.Series.{SpellsAll}
use Rattle.pcap_packets.specs.Captures.{SpellsFrame, IsCapture, records_behind, pcap_records}
use Rattle.pcap_packets.specs.Frames.{frame_record}
use Rattle.pcap_packets.specs.declared.formats.Format.{Format}
use Rattle.feed_io.specs.declared.limited.TheConstants.{FILE_OCTETS}
use Rattle.pcap_packets.specs.declared.part.Part.{Part}
use Rattle.pcap_packets.specs.declared.part.Stage.{Stage}
use Rattle.pcap_packets.specs.declared.part.Stage.TheVariants.{FileHeader, RecordHeader, Frame}

-- a part, as far as it was read
abbrev pub part_of : Stage → List ℕ → ℕ → Part
part_of stage front missing = record { stage = stage; front = front; missing = missing }

-- a source, how many of its octets were read, the interface, the part that is read, what of a record is still to give,
-- whether a call failed, and how many did
pub record CaptureState (S : Type 0) : Type 0 where
  pub source : S
  pub taken : ℕ
  pub iface : ℕ
  pub part : Part
  pub pending : List ℕ
  pub failed : Bool
  pub faults : ℕ

-- so many octets of a frame are missing: its record, and those behind it; none where the text ends before
abbrev pub frame_left : Format → ℕ → List ℕ → ℕ → List ℕ → List ℕ
frame_left format iface front missing text =
    if nat_lt (length text) missing then []
    else frame_record format.link iface (front ++ take missing text)
    ++ records_behind (Some format) iface (drop missing text)

-- the packet records of the octets of a part that were read, and of the text behind them
abbrev pub stage_left : Stage → ℕ → List ℕ → ℕ → List ℕ → List ℕ
stage_left FileHeader iface front missing text = pcap_records (front ++ text) iface
stage_left (RecordHeader format) iface front missing text = records_behind (Some format) iface (front ++ text)
stage_left (Frame format) iface front missing text = frame_left format iface front missing text

abbrev pub part_left : ℕ → Part → List ℕ → List ℕ
part_left iface part text = stage_left part.stage iface part.front part.missing text

-- the octets that are left to give, where those of the source are told
abbrev pub packets_left : ℕ → Part → List ℕ → Option (List ℕ) → Option (List ℕ)
packets_left iface part pending left = option_map (λ text. pending ++ part_left iface part text) left

-- with the text behind it the part makes a whole file
abbrev pub StageEnds : Stage → List ℕ → ℕ → List ℕ → Type 0
StageEnds FileHeader front missing text =
    (format : Format) × ((frames : List (List ℕ)) × IsCapture (front ++ text) format frames)
StageEnds (RecordHeader format) front missing text =
    (frames : List (List ℕ)) × SpellsAll (SpellsFrame format.order) (front ++ text) frames
StageEnds (Frame format) front missing text =
    (missing ≤ length text) × ((frames : List (List ℕ)) × SpellsAll (SpellsFrame format.order) (drop missing text) frames)

abbrev pub EndsWell : Part → List ℕ → Type 0
EndsWell part text = StageEnds part.stage part.front part.missing text

-- a header has the octets that were read and those that are missing
abbrev pub StageFits : Stage → ℕ → ℕ → Type 0
StageFits FileHeader held missing = held + missing ≡ 24
StageFits (RecordHeader format) held missing = held + missing ≡ 16
StageFits (Frame format) held missing = Unit {0}

abbrev pub Fits : Part → Type 0
Fits part = StageFits part.stage (length part.front) part.missing

-- a part of which an octet or more is missing
pub record IsUnfinished (part : Part) : Type 0 where
  pub fits : Fits part
  pub some : 0 < part.missing

-- where this piece is read behind a part, and this comes of it, then whatever follows it the same is left to give, and
-- ends as well
pub record Reads (iface : ℕ) (old : Part) (unsent piece : List ℕ) (new : Part) (pending : List ℕ) : Type 0 where
  pub same : (text : List ℕ) → unsent ++ part_left iface old (piece ++ text) ≡ pending ++ part_left iface new text
  pub on : (text : List ℕ) → EndsWell old (piece ++ text) → EndsWell new text
  pub back : (text : List ℕ) → EndsWell new text → EndsWell old (piece ++ text)

-- a piece of the text was read, was counted, and is no more than may be read
pub record Moves (iface : ℕ) (text : List ℕ) (taken : ℕ) (old : Part) (unsent rest : List ℕ) (count : ℕ) (new : Part)
    (pending : List ℕ) : Type 0 where
  pub piece : List ℕ
  pub parts : text ≡ piece ++ rest
  pub counted : count ≡ taken + length piece
  pub within : length piece ≤ FILE_OCTETS - taken
  pub reads : Reads iface old unsent piece new pending

-- the same of a source, where it tells what is left
abbrev pub Moved : ℕ → Option (List ℕ) → ℕ → Part → List ℕ → Option (List ℕ) → ℕ → Part → List ℕ → Type 0
Moved iface None taken old unsent left count new pending = Unit {0}
Moved iface (Some text) taken old unsent None count new pending = ⊥
Moved iface (Some text) taken old unsent (Some rest) count new pending =
    Moves iface text taken old unsent rest count new pending

-- nothing is left to give, and the part with the text behind it makes no whole file
pub record IsOff (iface : ℕ) (part : Part) (text : List ℕ) : Type 0 where
  pub none : part_left iface part text ≡ []
  pub wrong : EndsWell part text → ⊥

-- there is nothing to give in the octets that may still be read, and the text goes on up to there at least
pub record NeedsMore (taken iface : ℕ) (part : Part) (text : List ℕ) : Type 0 where
  pub beyond : FILE_OCTETS - taken ≤ length text
  pub none : part_left iface part (take (FILE_OCTETS - taken) text) ≡ []

-- nothing can be given: the file is off its format here, or more octets are needed than may be read
pub record Stops (taken iface : ℕ) (part : Part) (pending text : List ℕ) : Type 0 where
  pub sent : pending ≡ []
  pub cause : IsOff iface part text ⊎ NeedsMore taken iface part text
