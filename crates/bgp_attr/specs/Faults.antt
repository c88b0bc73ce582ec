-- When attributes are well formed, and otherwise which fault counts (RFC 4271, section 6.3).
use Rattle.std.specs.Prelude.{◌≡◌, ◌⊎◌, ◌<◌, ℕ, Bool, IsTrue, IfSome, List, [], ◌∷◌, ◌++◌, length, None}
use Rattle.urpf_base.specs.Lists.{Has, AreDistinct}
use Rattle.urpf_base.specs.Series.{Begins, SpellsAll}
use Rattle.as_path.specs.declared.widths.Width.{Width}
use Rattle.bgp_attr.specs.declared.attribute.TheConstants.{OPTIONAL, TRANSITIVE}
use Rattle.bgp_attr.specs.declared.demands.Demand.{Demand}
use Rattle.bgp_attr.specs.declared.demands.Demand.TheVariants.{New, Known, Flags, Length, Value}
use Rattle.bgp_attr.specs.declared.subcodes.TheConstants.{MALFORMED_ATTRIBUTE_LIST, UNRECOGNIZED_WELL_KNOWN_ATTRIBUTE}
use Rattle.bgp_attr.specs.declared.subcodes.TheConstants.{ATTRIBUTE_FLAGS_ERROR, ATTRIBUTE_LENGTH_ERROR}
use Rattle.bgp_attr.specs.Attribute.{Attribute, SpellsAttribute, has_flag, codes}
use Rattle.bgp_attr.specs.Table.{Row, row, type_from, value_subcode}

-- a type without a row in the table has the optional flag, and is then passed over
abbrev pub IsKnown : Attribute → Type 0
IsKnown attribute = type_from attribute.code ≡ None → IsTrue (has_flag OPTIONAL attribute.flags)

-- the optional and the transitive flag are those of the row; the others do not count
pub record HasFlags (flags : ℕ) (wanted : Row) : Type 0 where
  pub optional : has_flag OPTIONAL flags ≡ wanted.optional
  pub transitive : has_flag TRANSITIVE flags ≡ wanted.transitive

-- the value is as long as the row says, if it does
abbrev pub HasLength : List ℕ → Row → Type 0
HasLength value wanted = IfSome wanted.size (λ size. length value ≡ size)

-- the attribute, which comes after these, meets the demand
abbrev pub Meets : Width → Bool → List Attribute → Attribute → Demand → Type 0
Meets width v6 before attribute New = Has (codes before) attribute.code → ⊥
Meets width v6 before attribute Known = IsKnown attribute
Meets width v6 before attribute Flags =
    IfSome (type_from attribute.code) (λ type. HasFlags attribute.flags (row width v6 type))
Meets width v6 before attribute Length =
    IfSome (type_from attribute.code) (λ type. HasLength attribute.value (row width v6 type))
Meets width v6 before attribute Value =
    IfSome (type_from attribute.code) (λ type. (row width v6 type).Fits attribute.value)

-- the subcode of an attribute with this code that does not meet the demand
abbrev pub subcode : ℕ → Demand → ℕ
subcode code New = MALFORMED_ATTRIBUTE_LIST
subcode code Known = UNRECOGNIZED_WELL_KNOWN_ATTRIBUTE
subcode code Flags = ATTRIBUTE_FLAGS_ERROR
subcode code Length = ATTRIBUTE_LENGTH_ERROR
subcode code Value = value_subcode code

-- the order in which the demands of the table count, by our own choice: RFC 4271, section 6.3, gives none
abbrev pub own_order : List Demand
own_order = Known ∷ Flags ∷ Length ∷ Value ∷ []

-- before them counts that the type is new
abbrev pub order : List Demand
order = New ∷ own_order

-- of these demands, this is the first that is not met
abbrev pub FirstUnmet : (Demand → Type 0) → List Demand → Demand → Type 0
FirstUnmet Met [] demand = ⊥
FirstUnmet Met (first ∷ demands) demand =
    ((Met first → ⊥) × (demand ≡ first)) ⊎ (Met first × FirstUnmet Met demands demand)

-- the attribute is as the table asks, wherever it stands
pub record IsProper (width : Width) (v6 : Bool) (attribute : Attribute) : Type 0 where
  pub known : Meets width v6 [] attribute Known
  pub flags : Meets width v6 [] attribute Flags
  pub size : Meets width v6 [] attribute Length
  pub value : Meets width v6 [] attribute Value

-- the field is these attributes, one after the other and nothing else, of different types, each as the table asks
pub record AreAttributes (width : Width) (v6 : Bool) (field : List ℕ) (attributes : List Attribute) : Type 0 where
  pub spelled : SpellsAll SpellsAttribute field attributes
  pub distinct : AreDistinct (codes attributes)
  pub proper : (attribute : Attribute) → Has attributes attribute → IsProper width v6 attribute

-- there are octets, and they begin with no whole attribute
pub record RunsPast (rest : List ℕ) : Type 0 where
  pub some : 0 < length rest
  pub broken : (attribute : Attribute) (more : List ℕ) → Begins SpellsAttribute rest attribute more → ⊥

-- the attribute comes after these, and the first demand that it does not meet has this subcode
pub record FailsWith (width : Width) (v6 : Bool) (before : List Attribute) (attribute : Attribute) (sub : ℕ) : Type 0
  where
    pub demand : Demand
    pub first : FirstUnmet (Meets width v6 before attribute) order demand
    pub told : sub ≡ subcode attribute.code demand

-- the octets begin with an attribute that fails so
pub record IsFaulty (width : Width) (v6 : Bool) (before : List Attribute) (rest : List ℕ) (sub : ℕ) : Type 0 where
  pub attribute : Attribute
  pub more : List ℕ
  pub begins : Begins SpellsAttribute rest attribute more
  pub fails : FailsWith width v6 before attribute sub

-- what stands after these attributes is a fault of this subcode
abbrev pub StopsWith : Width → Bool → List Attribute → List ℕ → ℕ → Type 0
StopsWith width v6 before rest sub =
    (RunsPast rest × (sub ≡ MALFORMED_ATTRIBUTE_LIST)) ⊎ IsFaulty width v6 before rest sub

-- the field is attributes without a fault, the most that it begins with, and then a fault of this subcode
pub record IsFirstFault (width : Width) (v6 : Bool) (field : List ℕ) (sub : ℕ) : Type 0 where
  pub before : List Attribute
  pub front : List ℕ
  pub rest : List ℕ
  pub parts : field ≡ front ++ rest
  pub good : AreAttributes width v6 front before
  pub fault : StopsWith width v6 before rest sub

-- the field is attributes as the table asks, or it has a first fault
abbrev pub HasOutcome : Width → Bool → List ℕ → Type 0
HasOutcome width v6 field =
    ((attributes : List Attribute) × AreAttributes width v6 field attributes)
    ⊎ ((sub : ℕ) × IsFirstFault width v6 field sub)
