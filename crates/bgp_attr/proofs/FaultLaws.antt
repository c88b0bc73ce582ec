-- A field is attributes as the table asks, or has one first fault, and never both.
use Rattle.std.proofs.Common.{◌≡◌, inl, inr, ℕ, Bool, List, [], ◌∷◌, ◌++◌, length, Option, Some, None, refl, ap, sym}
use Rattle.std.proofs.Common.{subst, ◌∙◌, append_assoc, length-append, arith}
use Rattle.std.proofs.lemmas.List.{append-nil}
use Rattle.urpf_base.specs.Lists.{Has, AreDistinct}
use Rattle.urpf_base.specs.Series.{Begins, SpellsAll}
use Rattle.urpf_base.proofs.Series.{front_begins, one_series}
use Rattle.as_path.specs.declared.widths.Width.{Width}
use Rattle.bgp_attr.specs.declared.demands.Demand.{Demand}
use Rattle.bgp_attr.specs.declared.demands.Demand.TheVariants.{New, Known, Flags, Length, Value}
use Rattle.bgp_attr.specs.Attribute.{Attribute, SpellsAttribute, codes}
use Rattle.bgp_attr.specs.Faults.{Meets, FirstUnmet, order, subcode, IsProper, AreAttributes, FailsWith, IsFaulty}
use Rattle.bgp_attr.specs.Faults.{StopsWith, IsFirstFault}
use Rattle.bgp_attr.specs.Front.{attribute_front}
use Rattle.bgp_attr.proofs.FrontLaws.{attribute_reads}

-- where all demands are met, none is the first that is not
met_never : (Met : Demand → Type 0) (demands : List Demand) (d : Demand) → ((e : Demand) → Met e)
    → FirstUnmet Met demands d → ⊥
met_never Met [] d met unmet = unmet
met_never Met (e ∷ demands) d met (inl here) = here.0 (met e)
met_never Met (e ∷ demands) d met (inr later) = met_never Met demands d met later.1

-- one demand is the first that is not met
one_unmet : (Met : Demand → Type 0) (demands : List Demand) (d e : Demand) → FirstUnmet Met demands d
    → FirstUnmet Met demands e → d ≡ e
one_unmet Met [] d e one other = absurd one
one_unmet Met (f ∷ demands) d e (inl here) (inl there) = here.1 ∙ sym there.1
one_unmet Met (f ∷ demands) d e (inl here) (inr later) = absurd (here.0 later.0)
one_unmet Met (f ∷ demands) d e (inr later) (inl there) = absurd (there.0 later.0)
one_unmet Met (f ∷ demands) d e (inr later) (inr last) = one_unmet Met demands d e later.1 last.1

-- a new type and what the table asks are all demands
pub meets_all : (width : Width) (v6 : Bool) (before : List Attribute) (a : Attribute) → (Has (codes before) a.code → ⊥)
    → IsProper width v6 a → (d : Demand) → Meets width v6 before a d
meets_all width v6 before a new proper New = new
meets_all width v6 before a new proper Known = proper.known
meets_all width v6 before a new proper Flags = proper.flags
meets_all width v6 before a new proper Length = proper.size
meets_all width v6 before a new proper Value = proper.value

one_pair : (o : Option (Attribute × List ℕ)) (p q : Attribute × List ℕ) → o ≡ Some p → o ≡ Some q → p ≡ q
one_pair o p q first second = cc

-- a text begins with one attribute, and then one rest
one_front : (text rest other : List ℕ) (a b : Attribute) → Begins SpellsAttribute text a rest
    → Begins SpellsAttribute text b other → (a ≡ b) × (rest ≡ other)
one_front text rest other a b first second =
    let pair =
    one_pair (attribute_front text) (a, rest) (b, other) (front_begins attribute_reads text rest a first)
    (front_begins attribute_reads text other b second) in
    (ap (λ p. p.0) pair, ap (λ p. p.1) pair)

nothing_begins : (text rest : List ℕ) (a : Attribute) → text ≡ [] → Begins SpellsAttribute text a rest → ⊥
nothing_begins text rest a none b =
    omega (arith, ap length none, ap length b.parts, length-append b.one rest, attribute_reads.some b.one a b.spelled)

-- how what comes after some attributes ends: with nothing, or with a fault
abbrev pub Stops : Width → Bool → List Attribute → List ℕ → Option ℕ → Type 0
Stops width v6 before text None = text ≡ []
Stops width v6 before text (Some sub) = StopsWith width v6 before text sub

fails_once : (width : Width) (v6 : Bool) (before : List Attribute) (a b : Attribute) (s t : ℕ) → a ≡ b
    → FailsWith width v6 before a s → FailsWith width v6 before b t → s ≡ t
fails_once width v6 before a b s t same first second =
    let moved = subst (λ (x : Attribute). FailsWith width v6 before x s) same first in
    moved.told
    ∙ ap (subcode b.code)
    (one_unmet (Meets width v6 before b) order moved.demand second.demand moved.first second.first)
    ∙ sym second.told

faulty_once : (width : Width) (v6 : Bool) (before : List Attribute) (text : List ℕ) (s t : ℕ)
    → IsFaulty width v6 before text s → IsFaulty width v6 before text t → s ≡ t
faulty_once width v6 before text s t first second =
    fails_once width v6 before first.attribute second.attribute s t
    (one_front text first.more second.more first.attribute second.attribute first.begins second.begins).0
    first.fails second.fails

stops_with_once : (width : Width) (v6 : Bool) (before : List Attribute) (text : List ℕ) (s t : ℕ)
    → StopsWith width v6 before text s → StopsWith width v6 before text t → s ≡ t
stops_with_once width v6 before text s t (inl first) (inl second) = first.1 ∙ sym second.1
stops_with_once width v6 before text s t (inl first) (inr second) =
    absurd (first.0.broken second.attribute second.more second.begins)
stops_with_once width v6 before text s t (inr first) (inl second) =
    absurd (second.0.broken first.attribute first.more first.begins)
stops_with_once width v6 before text s t (inr first) (inr second) = faulty_once width v6 before text s t first second

end_no_fault : (width : Width) (v6 : Bool) (before : List Attribute) (text : List ℕ) (s : ℕ) → text ≡ []
    → StopsWith width v6 before text s → ⊥
end_no_fault width v6 before text s none (inl fault) = omega (arith, ap length none, fault.0.some)
end_no_fault width v6 before text s none (inr fault) = nothing_begins text fault.more fault.attribute none fault.begins

stops_once : (width : Width) (v6 : Bool) (before : List Attribute) (text : List ℕ) (o q : Option ℕ)
    → Stops width v6 before text o → Stops width v6 before text q → o ≡ q
stops_once width v6 before text None None first second = refl
stops_once width v6 before text None (Some t) first second = absurd (end_no_fault width v6 before text t first second)
stops_once width v6 before text (Some s) None first second = absurd (end_no_fault width v6 before text s second first)
stops_once width v6 before text (Some s) (Some t) first second =
    ap (λ n. Some n) (stops_with_once width v6 before text s t first second)

-- where an attribute begins the text and meets all demands, the text does not stop
goes_on : (width : Width) (v6 : Bool) (before : List Attribute) (text rest : List ℕ) (a : Attribute) (o : Option ℕ)
    → Begins SpellsAttribute text a rest → ((d : Demand) → Meets width v6 before a d) → Stops width v6 before text o → ⊥
goes_on width v6 before text rest a None begins met none = nothing_begins text rest a none begins
goes_on width v6 before text rest a (Some s) begins met (inl fault) = fault.0.broken a rest begins
goes_on width v6 before text rest a (Some s) begins met (inr fault) =
    let same = (one_front text rest fault.more a fault.attribute begins fault.begins).0 in
    let met_there = subst (λ (x : Attribute). (d : Demand) → Meets width v6 before x d) same met in
    met_never (Meets width v6 before fault.attribute) order fault.fails.demand met_there fault.fails.first

-- the text, which comes after some attributes, is more of them that meet all demands, and then stops
abbrev pub Ends : Width → Bool → List Attribute → List ℕ → List Attribute → Option ℕ → Type 0
Ends width v6 before text [] o = Stops width v6 before text o
Ends width v6 before text (a ∷ attributes) o =
    (rest : List ℕ) × Begins SpellsAttribute text a rest × ((d : Demand) → Meets width v6 before a d)
    × Ends width v6 (before ++ a ∷ []) rest attributes o

-- a text ends in one way
ends_once : (width : Width) (v6 : Bool) (before : List Attribute) (text : List ℕ) (xs ys : List Attribute)
    (o q : Option ℕ) → Ends width v6 before text xs o → Ends width v6 before text ys q → o ≡ q
ends_once width v6 before text [] [] o q first second = stops_once width v6 before text o q first second
ends_once width v6 before text [] (y ∷ ys) o q first second =
    absurd (goes_on width v6 before text second.0 y o second.1 second.2 first)
ends_once width v6 before text (x ∷ xs) [] o q first second =
    absurd (goes_on width v6 before text first.0 x q first.1 first.2 second)
ends_once width v6 before text (x ∷ xs) (y ∷ ys) o q first second =
    let same = one_front text first.0 second.0 x y first.1 second.1 in
    let moved = subst (λ (t : List ℕ). Ends width v6 (before ++ y ∷ []) t ys q) (sym same.1) second.3 in
    ends_once width v6 (before ++ x ∷ []) first.0 xs ys o q first.3
    (subst (λ (z : Attribute). Ends width v6 (before ++ z ∷ []) first.0 ys q) (sym same.0) moved)

has_after : (before : List Attribute) (a : Attribute) (more : List Attribute) (code : ℕ) → code ≡ a.code
    → Has (codes (before ++ a ∷ more)) code
has_after [] a more code same = inl same
has_after (x ∷ before) a more code same = inr (has_after before a more code same)

-- in a list of different types none comes again
not_before : (before : List Attribute) (a : Attribute) (more : List Attribute)
    → AreDistinct (codes (before ++ a ∷ more)) → Has (codes before) a.code → ⊥
not_before [] a more distinct has = has
not_before (x ∷ before) a more distinct (inl same) = distinct.0 (has_after before a more x.code (sym same))
not_before (x ∷ before) a more distinct (inr has) = not_before before a more distinct.1 has

ends_from : (width : Width) (v6 : Bool) (before attributes : List Attribute) (front rest : List ℕ) (o : Option ℕ)
    → SpellsAll SpellsAttribute front attributes → AreDistinct (codes (before ++ attributes))
    → ((a : Attribute) → Has attributes a → IsProper width v6 a) → Stops width v6 (before ++ attributes) rest o
    → Ends width v6 before (front ++ rest) attributes o
ends_from width v6 before [] front rest o spelled distinct proper stops =
    subst (λ (t : List ℕ). Stops width v6 before (t ++ rest) o) (sym spelled)
    (subst (λ (xs : List Attribute). Stops width v6 xs rest o) (append-nil before) stops)
ends_from width v6 before (a ∷ attributes) front rest o spelled distinct proper stops =
    let b = spelled.1 in
    let seam : before ++ a ∷ attributes ≡ (before ++ a ∷ []) ++ attributes =
    sym (append_assoc before (a ∷ []) attributes) in (
      spelled.0 ++ rest,
      record {
        one = b.one;
        spelled = b.spelled;
        parts = ap (λ t. t ++ rest) b.parts ∙ append_assoc b.one spelled.0 rest;
      },
      meets_all width v6 before a (not_before before a attributes distinct) (proper a (inl refl)),
      ends_from width v6 (before ++ a ∷ []) attributes spelled.0 rest o spelled.2
          (subst (λ (xs : List Attribute). AreDistinct (codes xs)) seam distinct)
          (λ x has. proper x (inr has)) (subst (λ (xs : List Attribute). Stops width v6 xs rest o) seam stops),
    )

-- attributes as the table asks are a field that ends with nothing
good_ends : (width : Width) (v6 : Bool) (field : List ℕ) (attributes : List Attribute)
    → AreAttributes width v6 field attributes → Ends width v6 [] field attributes None
good_ends width v6 field attributes are =
    subst (λ (t : List ℕ). Ends width v6 [] t attributes None) (append-nil field)
    (ends_from width v6 [] attributes field [] None are.spelled are.distinct are.proper refl)

-- a first fault is how the field ends
fault_ends : (width : Width) (v6 : Bool) (field : List ℕ) (sub : ℕ) (fault : IsFirstFault width v6 field sub)
    → Ends width v6 [] field fault.before (Some sub)
fault_ends width v6 field sub fault =
    subst (λ (t : List ℕ). Ends width v6 [] t fault.before (Some sub)) (sym fault.parts)
    (ends_from width v6 [] fault.before fault.front fault.rest (Some sub) fault.good.spelled fault.good.distinct
    fault.good.proper fault.fault)

-- a field that is attributes as the table asks has no first fault
pub no_fault : (width : Width) (v6 : Bool) (field : List ℕ) (attributes : List Attribute) (sub : ℕ)
    → AreAttributes width v6 field attributes → IsFirstFault width v6 field sub → ⊥
no_fault width v6 field attributes sub are fault =
    let same : None ≡ Some sub = ends_once width v6 [] field attributes fault.before None (Some sub)
    (good_ends width v6 field attributes are) (fault_ends width v6 field sub fault) in
    absurd cc

-- a field has one first fault
pub one_fault : (width : Width) (v6 : Bool) (field : List ℕ) (s t : ℕ) → IsFirstFault width v6 field s
    → IsFirstFault width v6 field t → s ≡ t
one_fault width v6 field s t first second =
    let same : Some s ≡ Some t = ends_once width v6 [] field first.before second.before (Some s) (Some t)
    (fault_ends width v6 field s first) (fault_ends width v6 field t second) in
    cc

-- a field is one list of attributes
pub one_list : (width : Width) (v6 : Bool) (field : List ℕ) (xs ys : List Attribute) → AreAttributes width v6 field xs
    → AreAttributes width v6 field ys → xs ≡ ys
one_list width v6 field xs ys first second =
    one_series attribute_front attribute_reads field xs ys first.spelled second.spelled
