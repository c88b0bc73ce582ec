-- The value of an AS_PATH or an AS4_PATH: segments of AS numbers (RFC 4271, section 4.3, path attribute b; RFC 6793,
-- section 3).
use Rattle.std.specs.Prelude.{◌≡◌, ℕ, ◌<◌, List, ◌∷◌, length}
use Rattle.byteorder.specs.Endian.{big_number}
use Rattle.urpf_base.specs.Series.{SpellsAll}
use Rattle.as_path.specs.declared.widths.Width.{Width}
use Rattle.as_path.specs.declared.widths.Width.TheVariants.{Two, Four}

-- a segment: an unordered set of AS numbers, or a sequence of them
pub data Segment : Type 0 where
  as_set : List ℕ → Segment
  as_sequence : List ℕ → Segment

-- the types of segments are AS_SET and AS_SEQUENCE; those of confederations are malformed here (RFC 5065, section 5)
abbrev pub type_of : Segment → ℕ
type_of (as_set numbers) = 1
type_of (as_sequence numbers) = 2

-- the AS numbers of a segment, in the order of its octets
abbrev pub numbers_of : Segment → List ℕ
numbers_of (as_set numbers) = numbers
numbers_of (as_sequence numbers) = numbers

-- how many octets an AS number takes
abbrev pub octets_per : Width → ℕ
octets_per Two = 2
octets_per Four = 4

-- the octets are one AS number, the highest octet first
pub record SpellsNumber (width : Width) (text : List ℕ) (number : ℕ) : Type 0 where
  pub whole : length text ≡ octets_per width
  pub value : number ≡ big_number (octets_per width) text

-- the octets are one segment: its type, how many AS numbers it has, at least one (RFC 7606, section 7.2), and these
pub record SpellsSegment (width : Width) (text : List ℕ) (segment : Segment) : Type 0 where
  pub octets : List ℕ
  pub parts : text ≡ type_of segment ∷ length (numbers_of segment) ∷ octets
  pub some : 0 < length (numbers_of segment)
  pub numbers : SpellsAll (SpellsNumber width) octets (numbers_of segment)

-- the value is a well formed path: these segments, one after the other, and nothing else; an empty value is a path of
-- none
abbrev pub IsPath : Width → List ℕ → List Segment → Type 0
IsPath width value segments = SpellsAll (SpellsSegment width) value segments
