-- What the capabilities of a peer tell (RFC 5492, section 4; RFC 6793, section 3; RFC 4760, section 8).
use Rattle.std.specs.Prelude.{ℕ, ◌==◌, ◌&&◌, ◌||◌, Bool, true, if◌then◌else◌, List, [], ◌∷◌, length, slice_index}
use Rattle.std.specs.Prelude.{Option, Some, None}
use Rattle.std.specs.List.{list_all, list_any}
use Rattle.std.specs.Option.{option_or}
use Rattle.byteorder.specs.Endian.{big_number}
use Rattle.bgp_open.specs.Fields.{Field, fields_in, are_fields}
use Rattle.bgp_open.specs.declared.capabilities.Told.{Told}

-- capability 65 is the AS number in four octets (RFC 6793, section 3)
abbrev pub number_in : Field → Option ℕ
number_in capability =
    if (capability.code == 65) && (length capability.value == 4) then Some (big_number 4 capability.value) else None

-- capability 1 with AFI 2 and SAFI 1 lists IPv6 unicast (RFC 4760, section 8)
abbrev pub lists_v6 : Field → Bool
lists_v6 capability =
    (capability.code == 1) && (length capability.value == 4)
    && ((big_number 2 capability.value == 2) && (slice_index capability.value 3 == 1))

-- capabilities 65 and 1 have a value of four octets; others are ignored
abbrev pub has_length : Field → Bool
has_length capability =
    if (capability.code == 65) || (capability.code == 1) then length capability.value == 4 else true

-- the value of a parameter is capabilities, none past its end, and each of a good length
abbrev pub are_capabilities : List ℕ → Bool
are_capabilities value = are_fields value && list_all has_length (fields_in value)

-- the AS number of the last capability 65; that the last counts is our own choice
abbrev pub last_number : List Field → Option ℕ
last_number [] = None
last_number (capability ∷ later) = option_or (last_number later) (number_in capability)

-- what one capability tells
abbrev pub told_of : Field → Told
told_of capability = record { number = number_in capability; v6 = lists_v6 capability }

-- what all together tell: the last AS number, and whether any of them lists IPv6 unicast
abbrev pub told_by : List Field → Told
told_by capabilities = record { number = last_number capabilities; v6 = list_any lists_v6 capabilities }

-- what was told before, and what later capabilities tell
abbrev pub told_after : Told → Told → Told
told_after before later = record { number = option_or later.number before.number; v6 = before.v6 || later.v6 }
