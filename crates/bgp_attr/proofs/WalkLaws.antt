-- How far a walk over a field of attributes has come.
use Rattle.std.proofs.Common.{◌≡◌, ◌⊎◌, inl, inr, ◌↔◌, ◌≢◌, ℕ, ◌<◌, Bool, true, false, IsTrue, List, [], ◌∷◌, ◌++◌}
use Rattle.std.proofs.Common.{length, get_or, set, replicate, Some, None, refl, ap, sym, subst, ◌∙◌, append_assoc}
use Rattle.std.proofs.Common.{arith, get_or-set_other, get_or-set_same, length-set}
use Rattle.std.proofs.lemmas.Bool.Decides.{eqb_tells}
use Rattle.std.proofs.lemmas.List.{append-nil, get_or-replicate}
use Rattle.urpf_base.specs.Lists.{Has, AreDistinct}
use Rattle.urpf_base.specs.Series.{Begins}
use Rattle.urpf_base.proofs.Series.{front_begins, spells-append}
use Rattle.as_path.specs.declared.widths.Width.{Width}
use Rattle.bgp_attr.specs.declared.subcodes.TheConstants.{MALFORMED_ATTRIBUTE_LIST}
use Rattle.bgp_attr.specs.Attribute.{Attribute, SpellsAttribute, codes}
use Rattle.bgp_attr.specs.Faults.{IsProper, AreAttributes, FailsWith, IsFirstFault}
use Rattle.bgp_attr.specs.Front.{attribute_front}
use Rattle.bgp_attr.specs.Slots.{Values, no_values, with_attribute, values_of}
use Rattle.bgp_attr.proofs.FrontLaws.{attribute_reads}
use Rattle.bgp_attr.proofs.ValueLaws.{values_of-more}

-- the field is attributes without a fault, and then the rest
pub record StandsAt (width : Width) (v6 : Bool) (field rest : List ℕ) : Type 0 where
  pub before : List Attribute
  pub front : List ℕ
  pub parts : field ≡ front ++ rest
  pub good : AreAttributes width v6 front before

-- the marks and the values are those of the attributes before the rest
pub record IsWalked (width : Width) (v6 : Bool) (field rest : List ℕ) (marks : List Bool) (held : Values) : Type 0 where
  pub place : StandsAt width v6 field rest
  pub room : length marks ≡ 256
  pub marked : (code : ℕ) → code < 256 → IsTrue (get_or marks code false) ↔ Has (codes place.before) code
  pub values : held ≡ values_of place.before

pub stands_first : (width : Width) (v6 : Bool) (field : List ℕ) → StandsAt width v6 field field
stands_first width v6 field =
    record {
      before = [];
      front = [];
      parts = refl;
      good = record { spelled = refl; distinct = tt; proper = λ a has. absurd has };
    }

walk_start : (width : Width) (v6 : Bool) (field : List ℕ)
    → IsWalked width v6 field field (replicate 256 false) no_values
unfolding stands_first
walk_start width v6 field = record {
  place = stands_first width v6 field;
  room = refl;
  marked = λ code within. (λ is_marked. unmarked code within is_marked, λ has. absurd has);
  values = refl;
}
  where
    unmarked : (code : ℕ) → code < 256 → IsTrue (get_or (replicate 256 false) code false) → ⊥
    unmarked code within is_marked = let e = get_or-replicate 256 code false false within in cc

-- before the first attribute
pub walk_begin : (width : Width) (v6 : Bool) (field : List ℕ) (held : Values) → held ≡ no_values
    → IsWalked width v6 field field (replicate 256 false) held
walk_begin width v6 field held none =
    subst (λ (v : Values). IsWalked width v6 field field (replicate 256 false) v) (sym none) (walk_start width v6 field)

has_or_last : (before : List Attribute) (a : Attribute) (code : ℕ) → Has (codes (before ++ a ∷ [])) code
    → Has (codes before) code ⊎ (code ≡ a.code)
has_or_last [] a code (inl same) = inr same
has_or_last [] a code (inr has) = absurd has
has_or_last (x ∷ before) a code (inl same) = inl (inl same)
has_or_last (x ∷ before) a code (inr has) = elim (has_or_last before a code has) [ inl h ↦ inl (inr h) | inr h ↦ inr h ]

has_still : (before : List Attribute) (a : Attribute) (code : ℕ) → Has (codes before) code
    → Has (codes (before ++ a ∷ [])) code
has_still [] a code has = absurd has
has_still (x ∷ before) a code (inl same) = inl same
has_still (x ∷ before) a code (inr has) = inr (has_still before a code has)

has_last : (before : List Attribute) (a : Attribute) (code : ℕ) → code ≡ a.code → Has (codes (before ++ a ∷ [])) code
has_last [] a code same = inl same
has_last (x ∷ before) a code same = inr (has_last before a code same)

distinct_more : (before : List Attribute) (a : Attribute) → AreDistinct (codes before) → (Has (codes before) a.code → ⊥)
    → AreDistinct (codes (before ++ a ∷ []))
distinct_more [] a distinct new = (λ has. has, tt)
distinct_more (x ∷ before) a distinct new = (
  λ has. elim (has_or_last before a x.code has) [ inl h ↦ distinct.0 h | inr same ↦ new (inl (sym same)) ],
  distinct_more before a distinct.1 (λ has. new (inr has)),
)

proper_more : (width : Width) (v6 : Bool) (before : List Attribute) (a : Attribute)
    → ((x : Attribute) → Has before x → IsProper width v6 x) → IsProper width v6 a → (x : Attribute)
    → Has (before ++ a ∷ []) x → IsProper width v6 x
proper_more width v6 [] a each proper x (inl same) = subst (λ (y : Attribute). IsProper width v6 y) (sym same) proper
proper_more width v6 [] a each proper x (inr has) = absurd has
proper_more width v6 (b ∷ before) a each proper x (inl same) = each x (inl same)
proper_more width v6 (b ∷ before) a each proper x (inr has) =
    proper_more width v6 before a (λ y h. each y (inr h)) proper x has

good_more : (width : Width) (v6 : Bool) (front one : List ℕ) (before : List Attribute) (a : Attribute)
    → AreAttributes width v6 front before → SpellsAttribute one a → (Has (codes before) a.code → ⊥)
    → IsProper width v6 a → AreAttributes width v6 (front ++ one) (before ++ a ∷ [])
good_more width v6 front one before a good spelled new proper = record {
  spelled =
      spells-append SpellsAttribute front one before (a ∷ []) good.spelled
      ([], record { one = one; spelled = spelled; parts = sym (append-nil one) }, refl);
  distinct = distinct_more before a good.distinct new;
  proper = proper_more width v6 before a good.proper proper;
}

mark_same : (before : List Attribute) (a : Attribute) (marks : List Bool) (code : ℕ) → a.code < length marks
    → code ≡ a.code → IsTrue (get_or (set marks a.code true) code false) ↔ Has (codes (before ++ a ∷ [])) code
mark_same before a marks code within same = (
  λ is_marked. has_last before a code same,
  λ has. subst (λ (n : ℕ). IsTrue (get_or (set marks a.code true) n false)) (sym same)
      (get_or-set_same marks a.code true false within),
)

mark_other : (before : List Attribute) (a : Attribute) (marks : List Bool) (code : ℕ) → code ≢ a.code
    → IsTrue (get_or marks code false) ↔ Has (codes before) code → IsTrue (get_or (set marks a.code true) code false)
    ↔ Has (codes (before ++ a ∷ [])) code
mark_other before a marks code differ old =
    let kept = get_or-set_other marks a.code code true false differ in (
      λ is_marked. has_still before a code (old.0 (sym kept ∙ is_marked)),
      λ has. kept ∙ old.1 (elim (has_or_last before a code has) [ inl h ↦ h | inr same ↦ absurd (differ same) ]),
    )

-- one more mark
mark_more : (before : List Attribute) (a : Attribute) (marks : List Bool) → length marks ≡ 256
    → ((code : ℕ) → code < 256 → IsTrue (get_or marks code false) ↔ Has (codes before) code) → a.code < 256
    → (code : ℕ) → code < 256 → IsTrue (get_or (set marks a.code true) code false) ↔ Has (codes (before ++ a ∷ [])) code
mark_more before a marks room marked within code below = elim (eqb_tells code a.code) [
  | inl same ↦ mark_same before a marks code (omega (arith, room, within)) same.1
  | inr other ↦ mark_other before a marks code other.1 (marked code below)
]

-- the rest begins with an attribute of a new type that is as the table asks
pub stands_further : {width : Width} {v6 : Bool} {field text : List ℕ} (place : StandsAt width v6 field text)
    (rest : List ℕ) (a : Attribute) → attribute_front text ≡ Some (a, rest) → (Has (codes place.before) a.code → ⊥)
    → IsProper width v6 a → StandsAt width v6 field rest
stands_further {width} {v6} {field} {text} place rest a found new proper =
    let b = attribute_reads.taken text rest a found in
    record {
      before = place.before ++ a ∷ [];
      front = place.front ++ b.one;
      parts = place.parts ∙ ap (λ t. place.front ++ t) b.parts ∙ sym (append_assoc place.front b.one rest);
      good = good_more width v6 place.front b.one place.before a place.good b.spelled new proper;
    }

-- nothing is left: the field is the attributes
pub stands_last : {width : Width} {v6 : Bool} {field : List ℕ} (rest : List ℕ) (place : StandsAt width v6 field rest)
    → length rest ≡ 0 → AreAttributes width v6 field place.before
stands_last {width} {v6} {field} [] place none =
    subst (λ (t : List ℕ). AreAttributes width v6 t place.before) (sym (place.parts ∙ append-nil place.front))
    place.good
stands_last (x ∷ rest) place none = absurd (omega (arith, none))

-- what is left begins with no attribute
pub stands_broken : {width : Width} {v6 : Bool} {field text : List ℕ} → StandsAt width v6 field text
    → attribute_front text ≡ None → 0 < length text → IsFirstFault width v6 field MALFORMED_ATTRIBUTE_LIST
stands_broken {text = text} place none some = record {
  before = place.before;
  front = place.front;
  rest = text;
  parts = place.parts;
  good = place.good;
  fault = inl (record { some = some; broken = broken }, refl);
}
  where
    broken : (a : Attribute) (more : List ℕ) → Begins SpellsAttribute text a more → ⊥
    broken a more b = let found = front_begins attribute_reads text more a b in cc

-- what is left begins with an attribute that fails
pub stands_faulty : {width : Width} {v6 : Bool} {field text : List ℕ} (place : StandsAt width v6 field text)
    (rest : List ℕ) (a : Attribute) (sub : ℕ) → attribute_front text ≡ Some (a, rest)
    → FailsWith width v6 place.before a sub → IsFirstFault width v6 field sub
stands_faulty {text = text} place rest a sub found fails = record {
  before = place.before;
  front = place.front;
  rest = text;
  parts = place.parts;
  good = place.good;
  fault = inr (record { attribute = a; more = rest; begins = attribute_reads.taken text rest a found; fails = fails });
}

-- one more attribute is walked over
walk_further : {width : Width} {v6 : Bool} {field text : List ℕ} {marks : List Bool} {held : Values}
    → IsWalked width v6 field text marks held → (rest : List ℕ) (a : Attribute)
    → attribute_front text ≡ Some (a, rest) → a.code < 256 → get_or marks a.code false ≡ false → IsProper width v6 a
    → IsWalked width v6 field rest (set marks a.code true) (with_attribute a held)
unfolding stands_further
walk_further {width} {v6} {field} {text} {marks} {held} walked rest a found within unmarked proper =
    let before = walked.place.before in
    let new =
    λ (has : Has (codes before) a.code). is_marked (get_or marks a.code false) unmarked
    ((walked.marked a.code within).1 has) in
    record {
      place = stands_further walked.place rest a found new proper;
      room = length-set marks a.code true ∙ walked.room;
      marked = mark_more before a marks walked.room walked.marked within;
      values = ap (with_attribute a) walked.values ∙ sym (values_of-more before a new);
    }
  where
    is_marked : (mark : Bool) → mark ≡ false → IsTrue mark → ⊥
    is_marked mark unmarked_is marked_is = cc

-- one more attribute is walked over, as the walk has its code and the values
pub walk_on : {width : Width} {v6 : Bool} {field text : List ℕ} {marks : List Bool} {held : Values}
    → IsWalked width v6 field text marks held → (rest : List ℕ) (a : Attribute) (place : ℕ) (more : Values)
    → attribute_front text ≡ Some (a, rest) → place < 256 → place ≡ a.code → get_or marks place false ≡ false
    → IsProper width v6 a → more ≡ with_attribute a held → IsWalked width v6 field rest (set marks place true) more
walk_on {width} {v6} {field} {text} {marks} {held} walked rest a place more found within same unmarked proper more_is =
    let below : a.code < 256 = omega (arith, same, within) in
    let free = ap (λ n. get_or marks n false) (sym same) ∙ unmarked in
    subst (λ (v : Values). IsWalked width v6 field rest (set marks place true) v) (sym more_is)
    (subst (λ (n : ℕ). IsWalked width v6 field rest (set marks n true) (with_attribute a held)) (sym same)
    (walk_further walked rest a found below free proper))

-- the mark of a code tells whether it came before
pub mark_tells : {width : Width} {v6 : Bool} {field text : List ℕ} {marks : List Bool} {held : Values}
    (walked : IsWalked width v6 field text marks held) (code place : ℕ) → place < 256 → place ≡ code
    → IsTrue (get_or marks place false) ↔ Has (codes walked.place.before) code
mark_tells {marks = marks} walked code place within same =
    subst (λ (n : ℕ). IsTrue (get_or marks n false) ↔ Has (codes walked.place.before) code) (sym same)
    (walked.marked code (omega (arith, same, within)))
