-- A body is an UPDATE without a fault, or has one first fault, and never both.
use Rattle.std.proofs.Common.{◌≡◌, ◌⊎◌, inl, inr, ℕ, ◌<◌, Bool, true, false, List, [], ◌∷◌, ◌++◌, length, is_some, refl}
use Rattle.std.proofs.Common.{ap, sym, subst, ◌∙◌, arith, Result, Ok, Err, IfOk, IfErr, IsTrue, ◌↔◌}
use Rattle.std.proofs.lemmas.Bool.{cases_lt}
use Rattle.urpf_base.specs.RouteUpdates.{RouteUpdate}
use Rattle.bgp_nlri.specs.Front.{prefix_front}
use Rattle.bgp_nlri.specs.declared.family.Family.TheVariants.{V4}
use Rattle.bgp_nlri.proofs.Laws.{front_reads}
use Rattle.as_path.specs.declared.widths.Width.{Width}
use Rattle.bgp_attr.specs.Attribute.{Attribute}
use Rattle.bgp_attr.specs.Faults.{AreAttributes, IsFirstFault}
use Rattle.bgp_attr.specs.Slots.{Values, values_of}
use Rattle.bgp_attr.specs.Told.{reach_in}
use Rattle.bgp_attr.proofs.DecideLaws.{series}
use Rattle.bgp_attr.proofs.DecideLaws.{has_outcome as attributes_outcome}
use Rattle.bgp_attr.proofs.FaultLaws.{no_fault, one_fault, one_list}
use Rattle.bgp_attr.proofs.ValueLaws.{values_fit, reach_in-prefixes, unreach_in-prefixes}
use Rattle.bgp_update.specs.declared.reading.UpdateFault.{UpdateFault}
use Rattle.bgp_update.specs.declared.subcodes.TheConstants.{MALFORMED_ATTRIBUTE_LIST, MISSING_WELL_KNOWN_ATTRIBUTE}
use Rattle.bgp_update.specs.declared.subcodes.TheConstants.{INVALID_NETWORK_FIELD}
use Rattle.bgp_update.specs.Faults.{ArePrefixes, Check, withdrawn_routes, path_attributes, mandatory_attributes}
use Rattle.bgp_update.specs.Faults.{reachable_routes, Passes, Finds, order, FirstFinds, IsFaultOf, HasOutcome}
use Rattle.bgp_update.specs.Update.{IsAnnouncing, HasMandatory, IsUpdate}
use Rattle.bgp_update.proofs.LayoutLaws.{AreSame, one_layout, fits, HasLayout, laid_out_or_too_long}
use Rattle.bgp_update.proofs.OriginLaws.{some_origin}
use Rattle.bgp_update.proofs.UpdateLaws.{one_update}

-- a check that passes finds no fault
finds_nothing : (width : Width) (v6 : Bool) (w f n : List ℕ) (check : Check) (sub : ℕ) → Passes width v6 w f n check
    → Finds width v6 w f n check sub → ⊥
finds_nothing width v6 w f n withdrawn_routes sub pass find = find.0 pass
finds_nothing width v6 w f n path_attributes sub pass find = no_fault width v6 f pass.0 sub pass.1 find
finds_nothing width v6 w f n mandatory_attributes sub pass find =
    find.0.2
    (subst (λ (xs : List Attribute). HasMandatory v6 n (values_of xs))
    (one_list width v6 f pass.0 find.0.0 pass.1 find.0.1) pass.2)
finds_nothing width v6 w f n reachable_routes sub pass find = find.0 pass

-- a check finds one fault
finds_once : (width : Width) (v6 : Bool) (w f n : List ℕ) (check : Check) (s t : ℕ) → Finds width v6 w f n check s
    → Finds width v6 w f n check t → s ≡ t
finds_once width v6 w f n withdrawn_routes s t first second = first.1 ∙ sym second.1
finds_once width v6 w f n path_attributes s t first second = one_fault width v6 f s t first second
finds_once width v6 w f n mandatory_attributes s t first second = first.1 ∙ sym second.1
finds_once width v6 w f n reachable_routes s t first second = first.1 ∙ sym second.1

-- where all checks pass none is the first that finds a fault
first_nothing : (width : Width) (v6 : Bool) (w f n : List ℕ) (checks : List Check) (sub : ℕ)
    → ((check : Check) → Passes width v6 w f n check)
    → FirstFinds (Passes width v6 w f n) (Finds width v6 w f n) checks sub → ⊥
first_nothing width v6 w f n [] sub all found = found
first_nothing width v6 w f n (check ∷ checks) sub all (inl find) =
    finds_nothing width v6 w f n check sub (all check) find
first_nothing width v6 w f n (check ∷ checks) sub all (inr later) = first_nothing width v6 w f n checks sub all later.1

first_once : (width : Width) (v6 : Bool) (w f n : List ℕ) (checks : List Check) (s t : ℕ)
    → FirstFinds (Passes width v6 w f n) (Finds width v6 w f n) checks s
    → FirstFinds (Passes width v6 w f n) (Finds width v6 w f n) checks t → s ≡ t
first_once width v6 w f n [] s t first second = absurd first
first_once width v6 w f n (check ∷ checks) s t (inl first) (inl second) =
    finds_once width v6 w f n check s t first second
first_once width v6 w f n (check ∷ checks) s t (inl first) (inr second) =
    absurd (finds_nothing width v6 w f n check s second.0 first)
first_once width v6 w f n (check ∷ checks) s t (inr first) (inl second) =
    absurd (finds_nothing width v6 w f n check t first.0 second)
first_once width v6 w f n (check ∷ checks) s t (inr first) (inr second) =
    first_once width v6 w f n checks s t first.1 second.1

-- what is first found in the fields of one layout is first found in those of another
moved : (width : Width) (v6 : Bool) (w f n x g m : List ℕ) (checks : List Check) (sub : ℕ) → AreSame w f n x g m
    → FirstFinds (Passes width v6 w f n) (Finds width v6 w f n) checks sub
    → FirstFinds (Passes width v6 x g m) (Finds width v6 x g m) checks sub
moved width v6 w f n x g m checks sub same found =
    subst (λ (t : List ℕ). FirstFinds (Passes width v6 x g t) (Finds width v6 x g t) checks sub) same.same_nlri
    (subst (λ (t : List ℕ). FirstFinds (Passes width v6 x t n) (Finds width v6 x t n) checks sub) same.same_field
    (subst (λ (t : List ℕ). FirstFinds (Passes width v6 t f n) (Finds width v6 t f n) checks sub) same.same_withdrawn
    found))

-- the fields of an UPDATE pass all checks
passes_all : (width : Width) (v6 : Bool) (body : List ℕ) (u : RouteUpdate) (is : IsUpdate width v6 body u)
    (check : Check) → Passes width v6 is.withdrawn is.field is.nlri check
passes_all width v6 body u is withdrawn_routes = (is.withdraws.front, is.withdraws.spells_front)
passes_all width v6 body u is path_attributes = (is.attributes, is.good)
passes_all width v6 body u is mandatory_attributes = (is.attributes, is.good, is.mandatory)
passes_all width v6 body u is reachable_routes = (is.announces.front, is.announces.spells_front)

-- an UPDATE without a fault has no first fault
pub never_both : (width : Width) (v6 : Bool) (body : List ℕ) (u : RouteUpdate) (sub : ℕ) → IsUpdate width v6 body u
    → IsFaultOf width v6 body sub → ⊥
never_both width v6 body u sub is (inl fault) = fits body is.withdrawn is.field is.nlri is.laid_out fault.0
never_both width v6 body u sub is (inr fault) =
    let same =
    one_layout body fault.withdrawn fault.field fault.nlri is.withdrawn is.field is.nlri fault.laid_out is.laid_out
    in
    first_nothing width v6 is.withdrawn is.field is.nlri order sub (passes_all width v6 body u is)
    (moved width v6 fault.withdrawn fault.field fault.nlri is.withdrawn is.field is.nlri order sub same fault.first)

-- a body has one first fault
pub fault_once : (width : Width) (v6 : Bool) (body : List ℕ) (s t : ℕ) → IsFaultOf width v6 body s
    → IsFaultOf width v6 body t → s ≡ t
fault_once width v6 body s t (inl first) (inl second) = first.1 ∙ sym second.1
fault_once width v6 body s t (inl first) (inr second) =
    absurd (fits body second.withdrawn second.field second.nlri second.laid_out first.0)
fault_once width v6 body s t (inr first) (inl second) =
    absurd (fits body first.withdrawn first.field first.nlri first.laid_out second.0)
fault_once width v6 body s t (inr a) (inr b) =
    let same = one_layout body a.withdrawn a.field a.nlri b.withdrawn b.field b.nlri a.laid_out b.laid_out in
    first_once width v6 b.withdrawn b.field b.nlri order s t
    (moved width v6 a.withdrawn a.field a.nlri b.withdrawn b.field b.nlri order s same a.first) b.first

-- a fact holds, or its opposite does
abbrev Told : Type 0 → Type 0
Told P = P ⊎ (P → ⊥)

some_told : (field : List ℕ) → Told (0 < length field)
some_told field =
    elim (cases_lt 0 (length field)) [ inl some ↦ inl some | inr none ↦ inr (λ some. omega (arith, some, none)) ]

either_told : (P Q : Type 0) → Told P → Told Q → Told (P ⊎ Q)
either_told P Q (inl p) q = inl (inl p)
either_told P Q (inr not_p) (inl q) = inl (inr q)
either_told P Q (inr not_p) (inr not_q) = inr (λ one. elim one [ inl p ↦ not_p p | inr q ↦ not_q q ])

if_told : (P : Type 0) (there : Bool) → Told P → Told (P → there ≡ true)
if_told P true told = inl (λ p. refl)
if_told P false (inl p) = inr (λ f. let e : false ≡ true = f p in cc)
if_told P false (inr never) = inl (λ p. absurd (never p))

mandatory_of : (v6 : Bool) (n : List ℕ) (held : Values) → Told (IsAnnouncing v6 n held → is_some held.origin ≡ true)
    → Told (IsAnnouncing v6 n held → is_some held.path ≡ true)
    → Told (0 < length n → is_some held.next_hop ≡ true) → Told (HasMandatory v6 n held)
mandatory_of v6 n held (inl o) (inl p) (inl h) = inl (record { origin = o; path = p; next_hop = h })
mandatory_of v6 n held (inl o) (inl p) (inr never) = inr (λ m. never m.next_hop)
mandatory_of v6 n held (inl o) (inr never) h = inr (λ m. never m.path)
mandatory_of v6 n held (inr never) p h = inr (λ m. never m.origin)

-- whether the mandatory attributes are there
mandatory_told : (v6 : Bool) (n : List ℕ) (held : Values) → Told (HasMandatory v6 n held)
mandatory_told v6 n held =
    let announcing : Told (IsAnnouncing v6 n held) = either_told (0 < length n) (0 < length (reach_in v6 held.reach))
    (some_told n) (some_told (reach_in v6 held.reach)) in
    mandatory_of v6 n held
    (if_told (IsAnnouncing v6 n held) (is_some held.origin) announcing)
    (if_told (IsAnnouncing v6 n held) (is_some held.path) announcing)
    (if_told (0 < length n) (is_some held.next_hop) (some_told n))

faulty : (width : Width) (v6 : Bool) (body : List ℕ) (l : HasLayout body) (sub : ℕ)
    → FirstFinds (Passes width v6 l.withdrawn l.field l.nlri) (Finds width v6 l.withdrawn l.field l.nlri) order sub
    → HasOutcome width v6 body
faulty width v6 body l sub first =
    inr (
      sub,
      inr (record { withdrawn = l.withdrawn; field = l.field; nlri = l.nlri; laid_out = l.laid_out; first = first }),
    )

-- fields that pass all checks are an UPDATE
good : (width : Width) (v6 : Bool) (body : List ℕ) (l : HasLayout body) (attributes : List Attribute)
    → ArePrefixes l.withdrawn → AreAttributes width v6 l.field attributes
    → HasMandatory v6 l.nlri (values_of attributes) → ArePrefixes l.nlri
    → HasOutcome width v6 body
good width v6 body l attributes ws are mandatory ns =
    let held = values_of attributes in
    let fit = values_fit width v6 attributes are.proper in
    let unreach = unreach_in-prefixes v6 held.unreach fit.unreach in
    let reach = reach_in-prefixes v6 held.reach fit.reach in
    let told = some_origin width held fit.path in
    let update : RouteUpdate = record { withdrawn = ws.0 ++ unreach.0; announced = ns.0 ++ reach.0; origin = told.0 } in
    inl (
      update,
      record {
        withdrawn = l.withdrawn;
        field = l.field;
        nlri = l.nlri;
        laid_out = l.laid_out;
        attributes = attributes;
        good = are;
        mandatory = mandatory;
        withdraws =
            record { front = ws.0; back = unreach.0; spells_front = ws.1; spells_back = unreach.1; joined = refl };
        announces = record { front = ns.0; back = reach.0; spells_front = ns.1; spells_back = reach.1; joined = refl };
        origin = told.1;
      },
    )

nlri_step : (width : Width) (v6 : Bool) (body : List ℕ) (l : HasLayout body) (attributes : List Attribute)
    → ArePrefixes l.withdrawn → AreAttributes width v6 l.field attributes
    → HasMandatory v6 l.nlri (values_of attributes) → Told (ArePrefixes l.nlri)
    → HasOutcome width v6 body
nlri_step width v6 body l attributes ws are mandatory (inl ns) = good width v6 body l attributes ws are mandatory ns
nlri_step width v6 body l attributes ws are mandatory (inr never) =
    faulty width v6 body l INVALID_NETWORK_FIELD
    (inr (ws, inr ((attributes, are), inr ((attributes, are, mandatory), inl (never, refl)))))

mandatory_step : (width : Width) (v6 : Bool) (body : List ℕ) (l : HasLayout body) (attributes : List Attribute)
    → ArePrefixes l.withdrawn → AreAttributes width v6 l.field attributes
    → Told (HasMandatory v6 l.nlri (values_of attributes))
    → HasOutcome width v6 body
mandatory_step width v6 body l attributes ws are (inl mandatory) =
    nlri_step width v6 body l attributes ws are mandatory (series (prefix_front V4) (front_reads V4) l.nlri)
mandatory_step width v6 body l attributes ws are (inr never) =
    faulty width v6 body l MISSING_WELL_KNOWN_ATTRIBUTE
    (inr (ws, inr ((attributes, are), inl ((attributes, are, never), refl))))

attributes_step : (width : Width) (v6 : Bool) (body : List ℕ) (l : HasLayout body) → ArePrefixes l.withdrawn
    → ((attributes : List Attribute) × AreAttributes width v6 l.field attributes)
    ⊎ ((sub : ℕ) × IsFirstFault width v6 l.field sub)
    → HasOutcome width v6 body
attributes_step width v6 body l ws (inl are) =
    mandatory_step width v6 body l are.0 ws are.1 (mandatory_told v6 l.nlri (values_of are.0))
attributes_step width v6 body l ws (inr fault) = faulty width v6 body l fault.0 (inr (ws, inl fault.1))

withdrawn_step : (width : Width) (v6 : Bool) (body : List ℕ) (l : HasLayout body) → Told (ArePrefixes l.withdrawn)
    → HasOutcome width v6 body
withdrawn_step width v6 body l (inl ws) = attributes_step width v6 body l ws (attributes_outcome width v6 l.field)
withdrawn_step width v6 body l (inr never) = faulty width v6 body l INVALID_NETWORK_FIELD (inl (never, refl))

-- a body is an UPDATE or has a first fault
pub has_outcome : (width : Width) (v6 : Bool) (body : List ℕ) → HasOutcome width v6 body
has_outcome width v6 body = elim (laid_out_or_too_long body) [
  | inl l ↦ withdrawn_step width v6 body l (series (prefix_front V4) (front_reads V4) l.withdrawn)
  | inr past ↦ inr (MALFORMED_ATTRIBUTE_LIST, inl (past, refl))
]

-- a body without a first fault is an UPDATE
pub good_without_fault : (width : Width) (v6 : Bool) (body : List ℕ) → ((sub : ℕ) → IsFaultOf width v6 body sub → ⊥)
    → (u : RouteUpdate) × IsUpdate width v6 body u
good_without_fault width v6 body none =
    elim (has_outcome width v6 body) [ inl is ↦ is | inr fault ↦ absurd (none fault.0 fault.1) ]

-- an answer that is right is the only right one
pub only_update : (width : Width) (v6 : Bool) (body : List ℕ) (answer : Result RouteUpdate UpdateFault)
    → IfOk answer (IsUpdate width v6 body) → IfErr answer (λ fault. IsFaultOf width v6 body fault.sub)
    → (u : RouteUpdate) → IsUpdate width v6 body u → answer ≡ Ok u
only_update width v6 body (Ok v) found fault u is = ap (λ x. Ok x) (one_update width v6 body v u found is)
only_update width v6 body (Err f) found fault u is = absurd (never_both width v6 body u f.sub is fault)

pub only_fault : (width : Width) (v6 : Bool) (body : List ℕ) (answer : Result RouteUpdate UpdateFault)
    → IfOk answer (IsUpdate width v6 body) → IfErr answer (λ fault. IsFaultOf width v6 body fault.sub)
    → (sub : ℕ) → IsFaultOf width v6 body sub → answer ≡ Err (record { sub = sub })
only_fault width v6 body (Ok v) found fault sub is = absurd (never_both width v6 body v sub found is)
only_fault width v6 body (Err f) found fault sub is =
    ap (λ n. Err (record { sub = n })) (fault_once width v6 body f.sub sub fault is)

-- a test that answers no has told that the fact does not hold
pub refused : (P : Type 0) (told : Bool) → (IsTrue told ↔ P) → told ≡ false → P → ⊥
refused P told tells denied p = let yes : told ≡ true = tells.1 p in absurd cc
