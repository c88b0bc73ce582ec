-- The header of a message, and its first fault (RFC 4271, sections 4.1 and 6.1).
use Rattle.std.specs.Prelude.{ℕ, ◌==◌, ◌&&◌, nat_le, if◌then◌else◌, Bool, not, List, take, drop, slice_index, Option}
use Rattle.std.specs.Prelude.{Some, None}
use Rattle.std.specs.List.{list_all}
use Rattle.byteorder.specs.Endian.{big_number}
use Rattle.bgp_wire.specs.Lengths.{least_length}
use Rattle.bgp_wire.specs.declared.kinds.MsgKind.TheVariants.{Open, Update, Notification, Keepalive}
use Rattle.bgp_wire.specs.declared.header.TheConstants.{CONNECTION_NOT_SYNCHRONIZED, BAD_MESSAGE_LENGTH}
use Rattle.bgp_wire.specs.declared.header.TheConstants.{BAD_MESSAGE_TYPE, OPEN, UPDATE, NOTIFICATION}

-- the marker is sixteen octets of all ones (RFC 4271, section 4.1)
abbrev pub has_marker : List ℕ → Bool
has_marker octets = list_all (λ octet. octet == 255) (take 16 octets)

-- the length of the whole message, header and all, stands in two octets after the marker
abbrev pub length_field : List ℕ → ℕ
length_field octets = big_number 2 (drop 16 octets)

-- the type is the 19th octet
abbrev pub type_field : List ℕ → ℕ
type_field octets = slice_index octets 18

-- a message has 19 to 4096 octets (RFC 4271, section 4.1)
abbrev pub is_length : ℕ → Bool
is_length count = nat_le 19 count && nat_le count 4096

-- the types are 1 to 4 (RFC 4271, section 4.1); route refresh, 5, is none of them (our own choice)
abbrev pub is_type : ℕ → Bool
is_type code = nat_le 1 code && nat_le code 4

-- the length that a message of this type needs (RFC 4271, sections 4.2, 4.3, 4.5 and 4.4)
abbrev pub fits_type : ℕ → ℕ → Bool
fits_type code count =
    if code == OPEN then nat_le (least_length Open) count else
    if code == UPDATE then nat_le (least_length Update) count else
    if code == NOTIFICATION then nat_le (least_length Notification) count else count == least_length Keepalive

-- the first fault of a header with this marker, length and type (RFC 4271, section 6.1)
abbrev pub first_fault : Bool → ℕ → ℕ → Option ℕ
first_fault marked count code =
    if not marked then Some CONNECTION_NOT_SYNCHRONIZED else
    if not (is_length count) then Some BAD_MESSAGE_LENGTH else
    if not (is_type code) then Some BAD_MESSAGE_TYPE else
    if not (fits_type code count) then Some BAD_MESSAGE_LENGTH else None

-- the subcode of the first fault of the header that the octets begin with
abbrev pub header_fault : List ℕ → Option ℕ
header_fault octets = first_fault (has_marker octets) (length_field octets) (type_field octets)
