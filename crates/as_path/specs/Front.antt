-- The first AS number of a text and the first segment of a path as functions, beside the relations of what their
-- spellings are.
use Rattle.std.specs.Prelude.{ℕ, ◌*◌, ◌==◌, nat_lt, if◌then◌else◌, List, [], ◌∷◌, length, take, drop, Option, Some}
use Rattle.std.specs.Prelude.{None}
use Rattle.byteorder.specs.Endian.{big_number}
use Rattle.urpf_base.specs.Series.{values_in}
use Rattle.as_path.specs.declared.widths.Width.{Width}
use Rattle.as_path.specs.declared.segments.SegmentType.{SegmentType}
use Rattle.as_path.specs.declared.segments.SegmentType.TheVariants.{Set, Sequence}
use Rattle.as_path.specs.Path.{Segment, as_set, as_sequence, octets_per}

-- the AS number in the first octets of the text, and the octets after them
abbrev pub cut_number : Width → List ℕ → ℕ × List ℕ
cut_number width text = (big_number (octets_per width) text, drop (octets_per width) text)

-- none where the text is shorter than an AS number
abbrev pub number_front : Width → List ℕ → Option (ℕ × List ℕ)
number_front width text = if nat_lt (length text) (octets_per width) then None else Some (cut_number width text)

-- the AS numbers of a text
abbrev pub numbers_in : Width → List ℕ → List ℕ
numbers_in width text = values_in (number_front width) text

-- which type of segment an octet means, if any
abbrev pub type_from : ℕ → Option SegmentType
type_from octet = if octet == 1 then Some Set else if octet == 2 then Some Sequence else None

-- the segment of this type that has these AS numbers
abbrev pub segment_from : SegmentType → List ℕ → Segment
segment_from Set numbers = as_set numbers
segment_from Sequence numbers = as_sequence numbers

-- the segment whose AS numbers take so many octets of the text, and the octets after them
abbrev pub cut_segment : Width → SegmentType → ℕ → List ℕ → Segment × List ℕ
cut_segment width type size text = (segment_from type (numbers_in width (take size text)), drop size text)

-- none where the type is not known, there is no AS number, or there are too few octets
abbrev pub segment_after : Width → Option SegmentType → ℕ → List ℕ → Option (Segment × List ℕ)
segment_after width None count text = None
segment_after width (Some type) count text =
    if count == 0 then None else if nat_lt (length text) (count * octets_per width) then None
    else Some (cut_segment width type (count * octets_per width) text)

-- the first segment of a path, and what is left of the path
abbrev pub segment_front : Width → List ℕ → Option (Segment × List ℕ)
segment_front width [] = None
segment_front width (octet ∷ []) = None
segment_front width (octet ∷ count ∷ text) = segment_after width (type_from octet) count text

-- the segments of a value up to the first place where none is spelled
abbrev pub segments_in : Width → List ℕ → List Segment
segments_in width value = values_in (segment_front width) value
