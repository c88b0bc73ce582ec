-- Whether an attribute meets a demand can be told, and so each field is attributes as the table asks or has a first
-- fault.
use Rattle.std.proofs.Common.{◌≡◌, ◌⊎◌, inl, inr, ℕ, zero, suc, ◌<◌, ◌≤◌, Bool, true, false, List, [], ◌∷◌, length}
use Rattle.std.proofs.Common.{drop, Option, Some, None, IfSome, refl, slice_index, arith}
use Rattle.std.proofs.lemmas.Bool.{cases_lt}
use Rattle.std.proofs.lemmas.Bool.Decides.{eqb_tells}
use Rattle.byteorder.specs.Endian.{big_number}
use Rattle.urpf_base.specs.Lists.{Has}
use Rattle.urpf_base.specs.Series.{SpellsAll, ReadsFront}
use Rattle.urpf_base.proofs.Series.{spells-more, spells-less, spells_nothing, rest_shorter}
use Rattle.bgp_nlri.specs.Front.{prefix_front}
use Rattle.bgp_nlri.specs.declared.family.Family.TheVariants as family
use Rattle.bgp_nlri.proofs.Laws as nlri
use Rattle.as_path.specs.declared.widths.Width.{Width}
use Rattle.as_path.specs.Front.{segment_front}
use Rattle.as_path.proofs.PathLaws.{segment_reads}
use Rattle.bgp_attr.specs.declared.types.AttributeType.{AttributeType}
use Rattle.bgp_attr.specs.declared.types.AttributeType.TheVariants.{Origin, AsPath, NextHop, MultiExitDisc, LocalPref}
use Rattle.bgp_attr.specs.declared.types.AttributeType.TheVariants.{AtomicAggregate, Aggregator, MpReachNlri}
use Rattle.bgp_attr.specs.declared.types.AttributeType.TheVariants.{MpUnreachNlri, As4Path, As4Aggregator}
use Rattle.bgp_attr.specs.declared.attribute.TheConstants.{OPTIONAL, TRANSITIVE}
use Rattle.bgp_attr.specs.declared.demands.Demand.{Demand}
use Rattle.bgp_attr.specs.declared.demands.Demand.TheVariants.{New, Known, Flags, Length, Value}
use Rattle.bgp_attr.specs.Attribute.{Attribute, has_flag, codes}
use Rattle.bgp_attr.specs.Table.{Row, row, type_from, reach_place, is_heeded, IsReach}
use Rattle.bgp_attr.specs.Faults.{HasFlags, HasLength, Meets, FirstUnmet, order, IsProper, FailsWith, AreAttributes}
use Rattle.bgp_attr.specs.Faults.{IsFirstFault, HasOutcome}
use Rattle.bgp_attr.specs.Front.{attribute_front}
use Rattle.bgp_attr.proofs.FrontLaws.{attribute_reads}
use Rattle.bgp_attr.proofs.WalkLaws.{StandsAt, stands_first, stands_further, stands_last, stands_broken, stands_faulty}

-- a fact holds, or its opposite does
abbrev pub Told : Type 0 → Type 0
Told P = P ⊎ (P → ⊥)

both : {P Q : Type 0} → Told P → Told Q → Told (P × Q)
both (inl p) (inl q) = inl (p, q)
both (inl p) (inr not_q) = inr (λ pair. not_q pair.1)
both (inr not_p) q = inr (λ pair. not_p pair.0)

either : {P Q : Type 0} → Told P → Told Q → Told (P ⊎ Q)
either (inl p) q = inl (inl p)
either (inr not_p) (inl q) = inl (inr q)
either (inr not_p) (inr not_q) = inr (λ one. elim one [ inl p ↦ not_p p | inr q ↦ not_q q ])

under : {P Q : Type 0} → Told P → Told Q → Told (P → Q)
under (inl p) (inl q) = inl (λ _. q)
under (inl p) (inr not_q) = inr (λ f. not_q (f p))
under (inr not_p) q = inl (λ p. absurd (not_p p))

opposite : {P : Type 0} → Told P → Told (P → ⊥)
opposite (inl p) = inr (λ not_p. not_p p)
opposite (inr not_p) = inl not_p

alike : {P Q : Type 0} → (P → Q) → (Q → P) → Told P → Told Q
alike there back (inl p) = inl (there p)
alike there back (inr not_p) = inr (λ q. not_p (back q))

same_bool : (a b : Bool) → Told (a ≡ b)
same_bool true true = inl refl
same_bool true false = inr (λ same. cc)
same_bool false true = inr (λ same. cc)
same_bool false false = inl refl

same_number : (a b : ℕ) → Told (a ≡ b)
same_number a b = elim (eqb_tells a b) [ inl same ↦ inl same.1 | inr other ↦ inr other.1 ]

less : (a b : ℕ) → Told (a < b)
less a b = elim (cases_lt a b) [ inl below ↦ inl below | inr above ↦ inr (λ below. omega (arith, above, below)) ]

at_most : (a b : ℕ) → Told (a ≤ b)
at_most a b = elim (cases_lt b a) [ inl above ↦ inr (λ within. omega (arith, above, within)) | inr within ↦ inl within ]

for_value : {T : Type 0} (P : T → Type 0) → ((x : T) → Told (P x)) → (o : Option T) → Told (IfSome o P)
for_value P told None = inl tt
for_value P told (Some x) = told x

is_none : {T : Type 0} (o : Option T) → Told (o ≡ None)
is_none None = inl refl
is_none (Some x) = inr (λ same. cc)

stands_in : (codes : List ℕ) (code : ℕ) → Told (Has codes code)
stands_in [] code = inr (λ has. has)
stands_in (x ∷ codes) code = either (same_number code x) (stands_in codes code)

-- whether a text is values one after the other
series_step : {X : Type 0} {Spells : List ℕ → X → Type 0} (front : List ℕ → Option (X × List ℕ))
    → ReadsFront Spells front → (text rest : List ℕ) (x : X) → front text ≡ Some (x, rest)
    → Told ((xs : List X) × SpellsAll Spells rest xs) → Told ((xs : List X) × SpellsAll Spells text xs)
series_step front reads text rest x found (inl s) = inl (x ∷ s.0, spells-more front reads text rest x s.0 found s.1)
series_step front reads text rest x found (inr never) =
    inr (λ s. let l = spells-less front reads text rest x s.0 found s.1 in never (l.0, l.2))

series_at : {X : Type 0} {Spells : List ℕ → X → Type 0} (front : List ℕ → Option (X × List ℕ)) → ReadsFront Spells front
    → (text : List ℕ) (o : Option (X × List ℕ)) → front text ≡ o → 0 < length text
    → ((rest : List ℕ) → length rest < length text → Told ((xs : List X) × SpellsAll Spells rest xs))
    → Told ((xs : List X) × SpellsAll Spells text xs)
series_at front reads text None found some later = inr (λ s. spells_nothing front reads text s.0 found some s.1)
series_at front reads text (Some (x, rest)) found some later =
    series_step front reads text rest x found (later rest (rest_shorter reads text rest x found))

series_within : {X : Type 0} {Spells : List ℕ → X → Type 0} (front : List ℕ → Option (X × List ℕ))
    → ReadsFront Spells front → (k : ℕ) (text : List ℕ) → length text ≤ k
    → Told ((xs : List X) × SpellsAll Spells text xs)
series_within front reads k [] within = inl ([], refl)
series_within front reads zero (n ∷ text) within = absurd (omega (arith, within))
series_within front reads (suc k) (n ∷ text) within =
    series_at front reads (n ∷ text) (front (n ∷ text)) refl (omega arith)
    (λ rest shorter. series_within front reads k rest (omega (arith, within, shorter)))

pub series : {X : Type 0} {Spells : List ℕ → X → Type 0} (front : List ℕ → Option (X × List ℕ))
    → ReadsFront Spells front → (text : List ℕ) → Told ((xs : List X) × SpellsAll Spells text xs)
series front reads text = series_within front reads (length text) text (omega arith)

is_reach : (value : List ℕ) → Told (IsReach value)
is_reach value =
    alike (λ p. record { hop = p.0; whole = p.1; prefixes = p.2 }) (λ r. (r.hop, r.whole, r.prefixes))
    (triple (either (same_number (slice_index value 3) 16) (same_number (slice_index value 3) 32))
    (at_most (reach_place value) (length value))
    (series (prefix_front family.V6) (nlri.front_reads family.V6) (drop (reach_place value) value)))
  where
    triple : {P Q R : Type 0} → Told P → Told Q → Told R → Told (P × Q × R)
    triple p q r = alike (λ s. (s.0, s.1.0, s.1.1)) (λ s. (s.0, (s.1, s.2))) (both p (both q r))

fits : (width : Width) (v6 : Bool) (type : AttributeType) (value : List ℕ) → Told ((row width v6 type).Fits value)
fits width v6 Origin value = at_most (slice_index value 0) 2
fits width v6 AsPath value = series (segment_front width) (segment_reads width) value
fits width v6 NextHop value = both (opposite (same_number (big_number 4 value) 0)) (less (slice_index value 0) 224)
fits width v6 MultiExitDisc value = inl tt
fits width v6 LocalPref value = inl tt
fits width v6 AtomicAggregate value = inl tt
fits width v6 Aggregator value = inl tt
fits width v6 MpReachNlri value =
    both (at_most 3 (length value)) (under (same_bool (is_heeded v6 value) true) (is_reach value))
fits width v6 MpUnreachNlri value =
    both (at_most 3 (length value))
    (under (same_bool (is_heeded v6 value) true)
    (series (prefix_front family.V6) (nlri.front_reads family.V6) (drop 3 value)))
fits width v6 As4Path value = inl tt
fits width v6 As4Aggregator value = inl tt

flagged : (flags : ℕ) (wanted : Row) → Told (HasFlags flags wanted)
flagged flags wanted =
    alike (λ p. record { optional = p.0; transitive = p.1 }) (λ r. (r.optional, r.transitive))
    (both (same_bool (has_flag OPTIONAL flags) wanted.optional)
    (same_bool (has_flag TRANSITIVE flags) wanted.transitive))

-- whether an attribute, which comes after others, meets a demand
pub meets : (width : Width) (v6 : Bool) (before : List Attribute) (a : Attribute) (d : Demand)
    → Told (Meets width v6 before a d)
meets width v6 before a New = opposite (stands_in (codes before) a.code)
meets width v6 before a Known = under (is_none (type_from a.code)) (same_bool (has_flag OPTIONAL a.flags) true)
meets width v6 before a Flags =
    for_value (λ type. HasFlags a.flags (row width v6 type)) (λ type. flagged a.flags (row width v6 type))
    (type_from a.code)
meets width v6 before a Length =
    for_value (λ type. HasLength a.value (row width v6 type))
    (λ type. for_value (λ size. length a.value ≡ size) (λ size. same_number (length a.value) size)
    (row width v6 type).size) (type_from a.code)
meets width v6 before a Value =
    for_value (λ type. (row width v6 type).Fits a.value) (λ type. fits width v6 type a.value) (type_from a.code)

-- all of the demands are met
abbrev AllMet : (Demand → Type 0) → List Demand → Type 0
AllMet Met [] = Unit {0}
AllMet Met (d ∷ demands) = Met d × AllMet Met demands

unmet_step : (Met : Demand → Type 0) (d : Demand) (demands : List Demand) → Told (Met d)
    → AllMet Met demands ⊎ ((e : Demand) × FirstUnmet Met demands e)
    → AllMet Met (d ∷ demands) ⊎ ((e : Demand) × FirstUnmet Met (d ∷ demands) e)
unmet_step Met d demands (inl met) (inl rest) = inl (met, rest)
unmet_step Met d demands (inl met) (inr later) = inr (later.0, inr (met, later.1))
unmet_step Met d demands (inr not_met) later = inr (d, inl (not_met, refl))

first_unmet : (Met : Demand → Type 0) → ((d : Demand) → Told (Met d)) → (demands : List Demand)
    → AllMet Met demands ⊎ ((d : Demand) × FirstUnmet Met demands d)
first_unmet Met told [] = inl tt
first_unmet Met told (d ∷ demands) = unmet_step Met d demands (told d) (first_unmet Met told demands)

-- an attribute which comes after others is as the table asks and of a new type, or it fails
pub proper_or_fails : (width : Width) (v6 : Bool) (before : List Attribute) (a : Attribute)
    → ((Has (codes before) a.code → ⊥) × IsProper width v6 a) ⊎ ((sub : ℕ) × FailsWith width v6 before a sub)
proper_or_fails width v6 before a = elim (first_unmet (Meets width v6 before a) (meets width v6 before a) order) [
  | inl met ↦ inl (met.0, record { known = met.1.0; flags = met.1.1.0; size = met.1.1.1.0; value = met.1.1.1.1.0 })
  | inr unmet ↦ inr (_, record { demand = unmet.0; first = unmet.1; told = refl })
]

-- a field is attributes as the table asks, or has a first fault
outcome_at : (width : Width) (v6 : Bool) (field text : List ℕ) (place : StandsAt width v6 field text)
    (o : Option (Attribute × List ℕ)) → attribute_front text ≡ o → 0 < length text
    → ((rest : List ℕ) → length rest < length text → StandsAt width v6 field rest → HasOutcome width v6 field)
    → HasOutcome width v6 field
outcome_at width v6 field text place None found some later = inr (_, stands_broken place found some)
outcome_at width v6 field text place (Some (a, rest)) found some later =
    elim (proper_or_fails width v6 place.before a) [
      | inl good ↦ later rest (rest_shorter attribute_reads text rest a found)
          (stands_further place rest a found good.0 good.1)
      | inr fails ↦ inr (fails.0, stands_faulty place rest a fails.0 found fails.1)
    ]

outcome_within : (width : Width) (v6 : Bool) (field : List ℕ) (k : ℕ) (text : List ℕ) → StandsAt width v6 field text
    → length text ≤ k → HasOutcome width v6 field
outcome_within width v6 field k [] place within = inl (place.before, stands_last [] place refl)
outcome_within width v6 field zero (n ∷ text) place within = absurd (omega (arith, within))
outcome_within width v6 field (suc k) (n ∷ text) place within =
    outcome_at width v6 field (n ∷ text) place (attribute_front (n ∷ text)) refl (omega arith)
    (λ rest shorter further. outcome_within width v6 field k rest further (omega (arith, within, shorter)))

pub has_outcome : (width : Width) (v6 : Bool) (field : List ℕ) → HasOutcome width v6 field
has_outcome width v6 field =
    outcome_within width v6 field (length field) field (stands_first width v6 field) (omega arith)

-- without a first fault it is attributes
pub good_without_fault : (width : Width) (v6 : Bool) (field : List ℕ)
    → ((sub : ℕ) → IsFirstFault width v6 field sub → ⊥)
    → (attributes : List Attribute) × AreAttributes width v6 field attributes
good_without_fault width v6 field none =
    elim (has_outcome width v6 field) [ inl good ↦ good | inr fault ↦ absurd (none fault.0 fault.1) ]
