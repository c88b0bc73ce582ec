-- The values of a list of attributes, and what they tell.
use Rattle.std.proofs.Common.{◌≡◌, inl, inr, ℕ, ◌+◌, ◌<◌, ◌==◌, Bool, true, false, List, [], ◌∷◌, ◌++◌, length, Option}
use Rattle.std.proofs.Common.{Some, None, if◌then◌else◌, IfSome, refl, ap, sym, subst, ◌∙◌, length-append, arith}
use Rattle.std.proofs.Common.{eqb-true, IsTrue, drop}
use Rattle.std.specs.Option.{ForSome}
use Rattle.urpf_base.specs.Address.{Block}
use Rattle.urpf_base.specs.Lists.{Has}
use Rattle.bgp_nlri.specs.Nlri.{SpellsPrefixes}
use Rattle.bgp_nlri.specs.declared.family.Family.TheVariants as family
use Rattle.as_path.specs.declared.widths.Width.{Width}
use Rattle.as_path.specs.declared.widths.Width.TheVariants.{Two, Four}
use Rattle.as_path.specs.Path.{Segment, octets_per, IsPath}
use Rattle.bgp_attr.specs.declared.types.AttributeType.{AttributeType}
use Rattle.bgp_attr.specs.declared.types.AttributeType.TheVariants.{Origin, AsPath, NextHop, MultiExitDisc, LocalPref}
use Rattle.bgp_attr.specs.declared.types.AttributeType.TheVariants.{AtomicAggregate, Aggregator, MpReachNlri}
use Rattle.bgp_attr.specs.declared.types.AttributeType.TheVariants.{MpUnreachNlri, As4Path, As4Aggregator}
use Rattle.bgp_attr.specs.Attribute.{Attribute, codes}
use Rattle.bgp_attr.specs.Table.{row, code_of, type_from, IsAsPath, IsMpReach, IsMpUnreach, is_heeded, reach_place}
use Rattle.bgp_attr.specs.Faults.{HasLength, IsProper}
use Rattle.bgp_attr.specs.Slots.{value_at, values_of, put, with_attribute, AreFit}
use Rattle.bgp_attr.specs.Told.{TellsAs4, reach_in, unreach_in}

path_has_octets : (value : List ℕ) (segments : List Segment) → length value ≡ 0 → 0 < length segments
    → IsPath Four value segments → ⊥
path_has_octets value [] none some spelled = omega (arith, some)
path_has_octets value (s ∷ segments) none some spelled =
    let b = spelled.1 in
    omega (arith, none, ap length b.parts, length-append b.one spelled.0, ap length b.spelled.parts)

-- an AS4_PATH without octets is discarded
pub empty_tells : (width : Width) (held : Option (List ℕ)) (value : List ℕ) → held ≡ Some value → length value ≡ 0
    → TellsAs4 width held None
empty_tells Four held value is none = refl
empty_tells Two held value is none =
    subst (λ (h : Option (List ℕ)). TellsAs4 Two h None) (sym is)
    (λ segments some spelled. path_has_octets value segments none some spelled)

put_kept : (x a : Attribute) (code : ℕ) (is_x is_a : Bool) (more : Option (List ℕ)) → (a.code ≡ x.code → ⊥)
    → (x.code == code) ≡ is_x → (a.code == code) ≡ is_a
    → (if is_x then Some x.value else (if is_a then Some a.value else more))
    ≡ (if is_a then Some a.value else (if is_x then Some x.value else more))
put_kept x a code true true more differ x_is a_is =
    absurd (differ (eqb-true a.code code a_is ∙ sym (eqb-true x.code code x_is)))
put_kept x a code true false more differ x_is a_is = refl
put_kept x a code false is_a more differ x_is a_is = refl

-- the value with this code, with one more attribute whose type did not come before
pub value_at-more : (code : ℕ) (before : List Attribute) (a : Attribute) → (Has (codes before) a.code → ⊥)
    → value_at code (before ++ a ∷ []) ≡ put code a (value_at code before)
value_at-more code [] a new = refl
value_at-more code (x ∷ before) a new =
    ap (λ o. if x.code == code then Some x.value else o) (value_at-more code before a (λ has. new (inr has)))
    ∙ put_kept x a code (x.code == code) (a.code == code) (value_at code before) (λ same. new (inl same)) refl refl

-- the values of a list with one more attribute
pub values_of-more : (before : List Attribute) (a : Attribute) → (Has (codes before) a.code → ⊥)
    → values_of (before ++ a ∷ []) ≡ with_attribute a (values_of before)
values_of-more before a new =
    let more = λ (t : AttributeType). value_at-more (code_of t) before a new in
    cc (
      more Origin,
      more AsPath,
      more NextHop,
      more Aggregator,
      more MpReachNlri,
      more MpUnreachNlri,
      more As4Path,
      more As4Aggregator,
    )

type_from-code_of : (t : AttributeType) → type_from (code_of t) ≡ Some t
type_from-code_of Origin = refl
type_from-code_of AsPath = refl
type_from-code_of NextHop = refl
type_from-code_of MultiExitDisc = refl
type_from-code_of LocalPref = refl
type_from-code_of AtomicAggregate = refl
type_from-code_of Aggregator = refl
type_from-code_of MpReachNlri = refl
type_from-code_of MpUnreachNlri = refl
type_from-code_of As4Path = refl
type_from-code_of As4Aggregator = refl

proper_fits : (width : Width) (v6 : Bool) (t : AttributeType) (a : Attribute) → a.code ≡ code_of t → IsProper width v6 a
    → (row width v6 t).Fits a.value
proper_fits width v6 t a same proper =
    subst (λ (o : Option AttributeType). IfSome o (λ s. (row width v6 s).Fits a.value))
    (ap type_from same ∙ type_from-code_of t) proper.value

proper_length : (width : Width) (v6 : Bool) (t : AttributeType) (a : Attribute) → a.code ≡ code_of t
    → IsProper width v6 a → HasLength a.value (row width v6 t)
proper_length width v6 t a same proper =
    subst (λ (o : Option AttributeType). IfSome o (λ s. HasLength a.value (row width v6 s)))
    (ap type_from same ∙ type_from-code_of t) proper.size

found_in_front : (P : List ℕ → Type 0) (code : ℕ) (x : Attribute) (more : Option (List ℕ)) (value : List ℕ) (is : Bool)
    → (x.code == code) ≡ is → (x.code ≡ code → P x.value) → (more ≡ Some value → P value)
    → (if is then Some x.value else more) ≡ Some value → P value
found_in_front P code x more value true is front back found =
    let e : x.value ≡ value = cc in subst P e (front (eqb-true x.code code is))
found_in_front P code x more value false is front back found = back found

-- what all attributes of a code are, the value that is found of it is
found_is : (P : List ℕ → Type 0) (code : ℕ) (attributes : List Attribute)
    → ((a : Attribute) → Has attributes a → a.code ≡ code → P a.value) → (value : List ℕ)
    → value_at code attributes ≡ Some value → P value
found_is P code [] each value found = absurd cc
found_is P code (x ∷ attributes) each value found =
    found_in_front P code x (value_at code attributes) value (x.code == code) refl (each x (inl refl))
    (found_is P code attributes (λ a has. each a (inr has)) value) found

-- the values of attributes as the table asks are as it asks
pub values_fit : (width : Width) (v6 : Bool) (attributes : List Attribute)
    → ((a : Attribute) → Has attributes a → IsProper width v6 a) → AreFit width v6 (values_of attributes)
values_fit width v6 attributes proper = record {
  path = found_is (IsAsPath width) 2 attributes (λ a has same. proper_fits width v6 AsPath a same (proper a has));
  aggregator =
      found_is (λ value. length value ≡ octets_per width + 4) 7 attributes
      (λ a has same. proper_length width v6 Aggregator a same (proper a has));
  reach = found_is (IsMpReach v6) 14 attributes (λ a has same. proper_fits width v6 MpReachNlri a same (proper a has));
  unreach =
      found_is (IsMpUnreach v6) 15 attributes (λ a has same. proper_fits width v6 MpUnreachNlri a same (proper a has));
}

heeded_prefixes : (heeded : Bool) (field : List ℕ)
    → (IsTrue heeded → (prefixes : List Block) × SpellsPrefixes family.V6 field prefixes)
    → (prefixes : List Block) × SpellsPrefixes family.V6 (if heeded then field else []) prefixes
heeded_prefixes true field spelled = spelled refl
heeded_prefixes false field spelled = ([], refl)

-- what MP_REACH_NLRI announces is a field of prefixes
pub reach_in-prefixes : (v6 : Bool) (held : Option (List ℕ)) → ForSome held (IsMpReach v6)
    → (prefixes : List Block) × SpellsPrefixes family.V6 (reach_in v6 held) prefixes
reach_in-prefixes v6 None fit = ([], refl)
reach_in-prefixes v6 (Some value) fit =
    heeded_prefixes (is_heeded v6 value) (drop (reach_place value) value)
    (λ heeded. ((fit value refl).1 heeded).prefixes)

-- what MP_UNREACH_NLRI withdraws is a field of prefixes
pub unreach_in-prefixes : (v6 : Bool) (held : Option (List ℕ)) → ForSome held (IsMpUnreach v6)
    → (prefixes : List Block) × SpellsPrefixes family.V6 (unreach_in v6 held) prefixes
unreach_in-prefixes v6 None fit = ([], refl)
unreach_in-prefixes v6 (Some value) fit = heeded_prefixes (is_heeded v6 value) (drop 3 value) (fit value refl).1
