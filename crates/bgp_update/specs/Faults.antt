-- The faults of an UPDATE's body, and which of them counts (RFC 4271, section 6.3).
use Rattle.std.specs.Prelude.{◌≡◌, ◌⊎◌, ◌<◌, ℕ, ◌+◌, Bool, List, [], ◌∷◌, length, drop}
use Rattle.byteorder.specs.Endian.{big_number}
use Rattle.urpf_base.specs.Address.{Block}
use Rattle.urpf_base.specs.RouteUpdates.{RouteUpdate}
use Rattle.bgp_nlri.specs.Nlri.{SpellsPrefixes}
use Rattle.bgp_nlri.specs.declared.family.Family.TheVariants.{V4}
use Rattle.as_path.specs.declared.widths.Width.{Width}
use Rattle.bgp_attr.specs.Attribute.{Attribute}
use Rattle.bgp_attr.specs.Faults.{AreAttributes, IsFirstFault}
use Rattle.bgp_attr.specs.Slots.{values_of}
use Rattle.bgp_update.specs.declared.subcodes.TheConstants.{MALFORMED_ATTRIBUTE_LIST, MISSING_WELL_KNOWN_ATTRIBUTE}
use Rattle.bgp_update.specs.declared.subcodes.TheConstants.{INVALID_NETWORK_FIELD}
use Rattle.bgp_update.specs.Layout.{IsLaidOut}
use Rattle.bgp_update.specs.Update.{HasMandatory, IsUpdate}

-- the length of the withdrawn routes, in the first two octets
abbrev pub withdrawn_length : List ℕ → ℕ
withdrawn_length body = big_number 2 body

-- the length of the path attributes, in the two octets after the withdrawn routes
abbrev pub attributes_length : List ℕ → ℕ
attributes_length body = big_number 2 (drop (2 + withdrawn_length body) body)

-- the withdrawn routes, or they and the path attributes, are longer than the body without its two lengths
abbrev pub AreTooLong : List ℕ → Type 0
AreTooLong body =
    (length body < withdrawn_length body + 4) ⊎ (length body < withdrawn_length body + attributes_length body + 4)

-- the field is IPv4 prefixes, one after the other, and nothing else
abbrev pub ArePrefixes : List ℕ → Type 0
ArePrefixes field = (prefixes : List Block) × SpellsPrefixes V4 field prefixes

-- what is asked of the fields of a body
pub data Check : Type 0 where
  withdrawn_routes : Check
  path_attributes : Check
  mandatory_attributes : Check
  reachable_routes : Check

-- the fields are as is asked
abbrev pub Passes : Width → Bool → List ℕ → List ℕ → List ℕ → Check → Type 0
Passes width v6 withdrawn field nlri withdrawn_routes = ArePrefixes withdrawn
Passes width v6 withdrawn field nlri path_attributes =
    (attributes : List Attribute) × AreAttributes width v6 field attributes
Passes width v6 withdrawn field nlri mandatory_attributes =
    (attributes : List Attribute) × AreAttributes width v6 field attributes
    × HasMandatory v6 nlri (values_of attributes)
Passes width v6 withdrawn field nlri reachable_routes = ArePrefixes nlri

-- the fields are not, which is a fault of this subcode
abbrev pub Finds : Width → Bool → List ℕ → List ℕ → List ℕ → Check → ℕ → Type 0
Finds width v6 withdrawn field nlri withdrawn_routes sub = (ArePrefixes withdrawn → ⊥) × (sub ≡ INVALID_NETWORK_FIELD)
Finds width v6 withdrawn field nlri path_attributes sub = IsFirstFault width v6 field sub
Finds width v6 withdrawn field nlri mandatory_attributes sub =
    ((attributes : List Attribute) × AreAttributes width v6 field attributes
    × (HasMandatory v6 nlri (values_of attributes) → ⊥)) × (sub ≡ MISSING_WELL_KNOWN_ATTRIBUTE)
Finds width v6 withdrawn field nlri reachable_routes sub = (ArePrefixes nlri → ⊥) × (sub ≡ INVALID_NETWORK_FIELD)

-- the order in which the checks count, by our own choice: RFC 4271, section 6.3, gives none
abbrev pub order : List Check
order = withdrawn_routes ∷ path_attributes ∷ mandatory_attributes ∷ reachable_routes ∷ []

-- of these checks, the first that does not pass finds this subcode
abbrev pub FirstFinds : (Check → Type 0) → (Check → ℕ → Type 0) → List Check → ℕ → Type 0
FirstFinds Pass Find [] sub = ⊥
FirstFinds Pass Find (check ∷ checks) sub = Find check sub ⊎ (Pass check × FirstFinds Pass Find checks sub)

-- the fields of the body have a fault, and this is the subcode of the first
pub record HasFaultyField (width : Width) (v6 : Bool) (body : List ℕ) (sub : ℕ) : Type 0 where
  pub withdrawn : List ℕ
  pub field : List ℕ
  pub nlri : List ℕ
  pub laid_out : IsLaidOut body withdrawn field nlri
  pub first : FirstFinds (Passes width v6 withdrawn field nlri) (Finds width v6 withdrawn field nlri) order sub

-- the subcode of the first fault of the body: the lengths of its fields count before the fields
abbrev pub IsFaultOf : Width → Bool → List ℕ → ℕ → Type 0
IsFaultOf width v6 body sub = (AreTooLong body × (sub ≡ MALFORMED_ATTRIBUTE_LIST)) ⊎ HasFaultyField width v6 body sub

-- the body is an UPDATE without a fault, or has a first fault
abbrev pub HasOutcome : Width → Bool → List ℕ → Type 0
HasOutcome width v6 body =
    ((update : RouteUpdate) × IsUpdate width v6 body update) ⊎ ((sub : ℕ) × IsFaultOf width v6 body sub)
