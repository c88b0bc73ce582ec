-- The table of attributes: the flags, the length and the value that each type asks for (RFC 4271, sections 4.3, 5 and
-- 6.3; RFC 4760, sections 3, 4 and 7; RFC 6793, section 3).
use Rattle.std.specs.Prelude.{◌≡◌, ◌≢◌, ◌⊎◌, ◌≤◌, ◌<◌, ℕ, ◌+◌, Bool, true, false, ◌&&◌, ◌==◌, IsTrue, List, [], ◌∷◌}
use Rattle.std.specs.Prelude.{length, drop, slice_index, find, Option, Some, None}
use Rattle.std.specs.Option.{option_map_or}
use Rattle.byteorder.specs.Endian.{big_number}
use Rattle.urpf_base.specs.Address.{Block}
use Rattle.bgp_nlri.specs.Nlri.{SpellsPrefixes}
use Rattle.bgp_nlri.specs.declared.family.Family.TheVariants as family
use Rattle.as_path.specs.declared.widths.Width.{Width}
use Rattle.as_path.specs.declared.widths.Width.TheVariants.{Two}
use Rattle.as_path.specs.Path.{Segment, IsPath, octets_per}
use Rattle.bgp_attr.specs.declared.types.AttributeType.{AttributeType}
use Rattle.bgp_attr.specs.declared.types.AttributeType.TheVariants.{Origin, AsPath, NextHop, MultiExitDisc, LocalPref}
use Rattle.bgp_attr.specs.declared.types.AttributeType.TheVariants.{AtomicAggregate, Aggregator, MpReachNlri}
use Rattle.bgp_attr.specs.declared.types.AttributeType.TheVariants.{MpUnreachNlri, As4Path, As4Aggregator}
use Rattle.bgp_attr.specs.declared.subcodes.TheConstants.{INVALID_ORIGIN, INVALID_NEXT_HOP, OPTIONAL_ATTRIBUTE_ERROR}
use Rattle.bgp_attr.specs.declared.subcodes.TheConstants.{MALFORMED_AS_PATH}

-- ORIGIN is IGP, EGP or INCOMPLETE (RFC 4271, section 4.3, a)
abbrev pub IsOrigin : List ℕ → Type 0
IsOrigin value = slice_index value 0 ≤ 2

-- AS_PATH is a well formed path (RFC 4271, section 6.3)
abbrev pub IsAsPath : Width → List ℕ → Type 0
IsAsPath width value = (segments : List Segment) × IsPath width value segments

-- NEXT_HOP is not 0.0.0.0, and of no class past that of hosts (RFC 4271, section 6.3)
abbrev pub IsNextHop : List ℕ → Type 0
IsNextHop value = (big_number 4 value ≢ 0) × (slice_index value 0 < 224)

-- address family 2 and subsequent address family 1 are IPv6 unicast (RFC 4760, sections 3 and 6)
abbrev pub is_ipv6_unicast : List ℕ → Bool
is_ipv6_unicast value = (big_number 2 value == 2) && (slice_index value 2 == 1)

-- a multiprotocol attribute of another family, or from a peer that did not list IPv6 unicast, is passed over
abbrev pub is_heeded : Bool → List ℕ → Bool
is_heeded v6 value = v6 && is_ipv6_unicast value

-- where the prefixes of MP_REACH_NLRI begin: after family, length of the next hop, next hop and a reserved octet (RFC
-- 4760, section 3)
abbrev pub reach_place : List ℕ → ℕ
reach_place value = slice_index value 3 + 5

-- the next hop is one address of IPv6 or two (RFC 2545, section 3), the reserved octet is there, and prefixes are to
-- the end
pub record IsReach (value : List ℕ) : Type 0 where
  pub hop : (slice_index value 3 ≡ 16) ⊎ (slice_index value 3 ≡ 32)
  pub whole : reach_place value ≤ length value
  pub prefixes : (prefixes : List Block) × SpellsPrefixes family.V6 (drop (reach_place value) value) prefixes

-- MP_REACH_NLRI has a family, and is whole where it is heeded
abbrev pub IsMpReach : Bool → List ℕ → Type 0
IsMpReach v6 value = (3 ≤ length value) × (IsTrue (is_heeded v6 value) → IsReach value)

-- MP_UNREACH_NLRI has a family, and then, where it is heeded, prefixes to the end (RFC 4760, section 4)
abbrev pub IsMpUnreach : Bool → List ℕ → Type 0
IsMpUnreach v6 value =
    (3 ≤ length value)
    × (IsTrue (is_heeded v6 value) → (prefixes : List Block) × SpellsPrefixes family.V6 (drop 3 value) prefixes)

-- a value that any octets are
abbrev pub AnyValue : List ℕ → Type 0
AnyValue value = Unit {0}

-- a row: the code of the type, whether it is optional and whether transitive, how long its value is if that is fixed,
-- what its value has to be, and the subcode of a value that is not, 0 where there is none
pub record Row : Type 1 where
  pub code : ℕ
  pub optional : Bool
  pub transitive : Bool
  pub size : Option ℕ
  pub Fits : List ℕ → Type 0
  pub wrong : ℕ

-- a well-known attribute is transitive and not optional (RFC 4271, section 4.3)
abbrev pub well_known : ℕ → Option ℕ → (List ℕ → Type 0) → ℕ → Row
well_known code size Fits wrong =
    record { code = code; optional = false; transitive = true; size = size; Fits = Fits; wrong = wrong }

-- an optional attribute that is transitive
abbrev pub transitive : ℕ → Option ℕ → (List ℕ → Type 0) → ℕ → Row
transitive code size Fits wrong =
    record { code = code; optional = true; transitive = true; size = size; Fits = Fits; wrong = wrong }

-- an optional attribute that is not
abbrev pub non_transitive : ℕ → Option ℕ → (List ℕ → Type 0) → ℕ → Row
non_transitive code size Fits wrong =
    record { code = code; optional = true; transitive = false; size = size; Fits = Fits; wrong = wrong }

-- the table, for AS numbers of this width, and for a peer that listed IPv6 unicast or did not
abbrev pub row : Width → Bool → AttributeType → Row
row width v6 Origin = well_known 1 (Some 1) IsOrigin INVALID_ORIGIN
row width v6 AsPath = well_known 2 None (IsAsPath width) MALFORMED_AS_PATH
row width v6 NextHop = well_known 3 (Some 4) IsNextHop INVALID_NEXT_HOP
row width v6 MultiExitDisc = non_transitive 4 (Some 4) AnyValue 0
row width v6 LocalPref = well_known 5 (Some 4) AnyValue 0
row width v6 AtomicAggregate = well_known 6 (Some 0) AnyValue 0
row width v6 Aggregator = transitive 7 (Some (octets_per width + 4)) AnyValue 0
row width v6 MpReachNlri = non_transitive 14 None (IsMpReach v6) OPTIONAL_ATTRIBUTE_ERROR
row width v6 MpUnreachNlri = non_transitive 15 None (IsMpUnreach v6) OPTIONAL_ATTRIBUTE_ERROR
row width v6 As4Path = transitive 17 None AnyValue 0
row width v6 As4Aggregator = transitive 18 None AnyValue 0

-- the code of a type, which is the same for every peer
abbrev pub code_of : AttributeType → ℕ
code_of type = (row Two false type).code

-- the types of the table, in its order
abbrev pub all_types : List AttributeType
all_types =
    Origin ∷ AsPath ∷ NextHop ∷ MultiExitDisc ∷ LocalPref ∷ AtomicAggregate ∷ Aggregator ∷ MpReachNlri ∷ MpUnreachNlri
    ∷ As4Path ∷ As4Aggregator ∷ []

-- the type of this code, none where the table has no row for it
abbrev pub type_from : ℕ → Option AttributeType
type_from code = find (λ type. code == code_of type) all_types

-- the subcode of a wrong value of the type of this code, which is the same for every peer
abbrev pub value_subcode : ℕ → ℕ
value_subcode code = option_map_or (λ type. (row Two false type).wrong) (type_from code) 0
