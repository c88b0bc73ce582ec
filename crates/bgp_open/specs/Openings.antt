-- The body of an OPEN, what it says, and its first fault (RFC 4271, sections 4.2 and 6.2).
use Rattle.std.specs.Prelude.{ℕ, ◌==◌, ◌||◌, not, Bool, if◌then◌else◌, List, [], ◌∷◌, length, drop, slice_index}
use Rattle.std.specs.Prelude.{unwrap_or, is_some, Option, Some, None}
use Rattle.std.specs.List.{flat_map}
use Rattle.std.specs.Option.{option_or}
use Rattle.byteorder.specs.Endian.{big_number}
use Rattle.bgp_open.specs.Fields.{Field, fields_in, are_fields}
use Rattle.bgp_open.specs.Capabilities.{are_capabilities, told_by}
use Rattle.bgp_open.specs.declared.capabilities.Told.{Told}
use Rattle.bgp_open.specs.declared.opening.OpenSeen.{OpenSeen}
use Rattle.bgp_open.specs.declared.faults.TheConstants.{UNSPECIFIC, UNSUPPORTED_VERSION_NUMBER, BAD_PEER_AS}
use Rattle.bgp_open.specs.declared.faults.TheConstants.{BAD_BGP_IDENTIFIER, UNSUPPORTED_OPTIONAL_PARAMETER}
use Rattle.bgp_open.specs.declared.faults.TheConstants.{UNACCEPTABLE_HOLD_TIME}

-- the hold time in seconds, octets 3 and 4
abbrev pub hold_field : List ℕ → ℕ
hold_field body = big_number 2 (drop 3 body)

-- a hold time of one or two seconds must be refused (RFC 4271, section 4.2)
abbrev pub is_unacceptable : ℕ → Bool
is_unacceptable hold = (hold == 1) || (hold == 2)

-- the identifier, octets 5 to 8
abbrev pub id_field : List ℕ → ℕ
id_field body = big_number 4 (drop 5 body)

-- My Autonomous System, octets 1 and 2
abbrev pub my_as_field : List ℕ → ℕ
my_as_field body = big_number 2 (drop 1 body)

-- the optional parameters, from octet 10 on; octet 9 says how many octets they take
abbrev pub parameters_field : List ℕ → List ℕ
parameters_field body = drop 10 body

-- what the capabilities of all parameters tell, in their order
abbrev pub told_in : List ℕ → Told
told_in parameters = told_by (flat_map (λ parameter. fields_in parameter.value) (fields_in parameters))

-- a type other than Capabilities, 2 (RFC 5492, section 4), or a value that is no list of them
abbrev pub parameter_fault : Field → Option ℕ
parameter_fault parameter =
    if not (parameter.code == 2) then Some UNSUPPORTED_OPTIONAL_PARAMETER else
    if not (are_capabilities parameter.value) then Some UNSPECIFIC else None

-- the fault of the first parameter that has one
abbrev pub first_parameter_fault : List Field → Option ℕ
first_parameter_fault [] = None
first_parameter_fault (parameter ∷ later) = option_or (parameter_fault parameter) (first_parameter_fault later)

-- a wrong length, or a parameter past the end, comes before what any holds (our own choice)
abbrev pub parameters_fault : ℕ → List ℕ → Option ℕ
parameters_fault count parameters =
    if not (count == length parameters) then Some UNSPECIFIC else
    if not (are_fields parameters) then Some UNSPECIFIC else first_parameter_fault (fields_in parameters)

-- the AS number of capability 65, and My Autonomous System without one (RFC 6793, section 4.1)
abbrev pub as_of : List ℕ → ℕ
as_of body = unwrap_or (told_in (parameters_field body)).number (my_as_field body)

-- the first fault of version, hold time and identifier
abbrev pub fixed_fault : List ℕ → Option ℕ
fixed_fault body =
    if not (slice_index body 0 == 4) then Some UNSUPPORTED_VERSION_NUMBER else
    if is_unacceptable (hold_field body) then Some UNACCEPTABLE_HOLD_TIME else
    if id_field body == 0 then Some BAD_BGP_IDENTIFIER else None

-- the peer is in another AS than the expected one
abbrev pub peer_fault : List ℕ → ℕ → Option ℕ
peer_fault body expected = if as_of body == expected then None else Some BAD_PEER_AS

-- the subcode of the first fault of an OPEN (RFC 4271, section 6.2); the order is our own choice
abbrev pub open_fault : List ℕ → ℕ → Option ℕ
open_fault body expected =
    option_or (fixed_fault body)
    (option_or (parameters_fault (slice_index body 9) (parameters_field body)) (peer_fault body expected))

-- what an OPEN says
abbrev pub open_seen : List ℕ → OpenSeen
open_seen body = record {
  asn = as_of body;
  hold = hold_field body;
  id = id_field body;
  four_octet = is_some (told_in (parameters_field body)).number;
  v6 = (told_in (parameters_field body)).v6;
}
