-- What is seen of the attributes of an object, one after the other.
use Rattle.std.proofs.Common.{◌≡◌, ℕ, ◌<◌, ◌≤◌, Bool, true, false, List, [], ◌∷◌, ◌++◌, length, map, Option, Some, None}
use Rattle.std.proofs.Common.{refl, sym, ap, subst, ◌∙◌, arith, append_assoc, append-nil, IsTrue, ◌↔◌, Decides}
use Rattle.std.specs.Prelude.{codes}
use Rattle.std.specs.Char.{to_ascii_lowercase}
use Rattle.std.specs.Str.{bytes_eq}
use Rattle.std.proofs.lemmas.Slice.Eq.{bytes_eq-Decides}
use Rattle.urpf_base.specs.Address.{Block}
use Rattle.ip_text.specs.Prefixes.{SpellsAsn}
use Rattle.roa_irr.specs.declared.objects.Object.{Object}
use Rattle.roa_irr.specs.declared.objects.Object.TheVariants as object
use Rattle.roa_irr.specs.declared.pairs.Outcome.{Outcome}
use Rattle.roa_irr.specs.declared.pairs.Outcome.TheVariants as outcome
use Rattle.roa_irr.specs.Irr.{AttributesComeTo, ClassComesTo, GivesRoute, ObjectComesTo, RouteComesTo, SpellsOfWidth}
use Rattle.roa_irr.specs.Irr.{class_width}
use Rattle.roa_irr.specs.Lines.{lines_of}
use Rattle.roa_irr.specs.Objects.{Attribute, Continued, first_named, is_named, value_of, with_attribute}
use Rattle.roa_irr.specs.Steps.{Does, HasOrigin, IsKnown, IsRoute, Sees, ahead, before_empty, behind_empty, outcome_from}
use Rattle.roa_irr.specs.Tables.{IsOnly}
use Rattle.roa_irr.proofs.Ahead.{ahead-does}

-- two tests of one fact
pub same_test : (b c : Bool) (P : Type 0) → IsTrue b ↔ P → Decides c P → b ≡ c
same_test true true P tells d = refl
same_test true false P tells d = sym (d.1 (tells.0 refl))
same_test false true P tells d = tells.1 (d.0 refl)
same_test false false P tells d = refl

pub names_are : (wanted name : List ℕ) → is_named wanted name ≡ true
    → map to_ascii_lowercase name ≡ map to_ascii_lowercase wanted
names_are wanted name is = (bytes_eq-Decides (map to_ascii_lowercase name) (map to_ascii_lowercase wanted)).0 is

-- a name is not two names
pub other_name : (wanted other name : List ℕ) → is_named wanted name ≡ true → is_named other wanted ≡ false
    → is_named other name ≡ false
other_name wanted other name is differ =
    ap (λ n. bytes_eq n (map to_ascii_lowercase other)) (names_are wanted name is) ∙ differ

none_by : (name : List ℕ) (x : Attribute) (xs : List Attribute) (a : Attribute) (b : Bool) → is_named name x.name ≡ b
    → first_named name (x ∷ xs) ≡ None
    → (first_named name xs ≡ None → first_named name (xs ++ a ∷ []) ≡ first_named name (a ∷ []))
    → first_named name (x ∷ (xs ++ a ∷ [])) ≡ first_named name (a ∷ [])
none_by name x xs a true is none go = absurd (let h = rw is at none in cc)
none_by name x xs a false is none go = rw is (go (rw is at none))

-- one more attribute is the first of its name, where there was none
first_named-none : (name : List ℕ) (attributes : List Attribute) (a : Attribute) → first_named name attributes ≡ None
    → first_named name (attributes ++ a ∷ []) ≡ first_named name (a ∷ [])
first_named-none name [] a none = refl
first_named-none name (x ∷ xs) a none =
    none_by name x xs a (is_named name x.name) refl none (first_named-none name xs a)

some_by : (name : List ℕ) (x : Attribute) (xs : List Attribute) (a holder : Attribute) (b : Bool)
    → is_named name x.name ≡ b → first_named name (x ∷ xs) ≡ Some holder
    → (first_named name xs ≡ Some holder → first_named name (xs ++ a ∷ []) ≡ Some holder)
    → first_named name (x ∷ (xs ++ a ∷ [])) ≡ Some holder
some_by name x xs a holder true is some go = rw is (rw is at some)
some_by name x xs a holder false is some go = rw is (go (rw is at some))

-- and the first one stays
first_named-some : (name : List ℕ) (attributes : List Attribute) (a holder : Attribute)
    → first_named name attributes ≡ Some holder → first_named name (attributes ++ a ∷ []) ≡ Some holder
first_named-some name [] a holder some = absurd cc
first_named-some name (x ∷ xs) a holder some =
    some_by name x xs a holder (is_named name x.name) refl some (first_named-some name xs a holder)

route-more : (attributes : List Attribute) (prefix : Option Block) (a : Attribute) → IsRoute attributes prefix
    → IsRoute (attributes ++ a ∷ []) prefix
route-more attributes prefix a is = record {
  first = is.first;
  more = is.more ++ a ∷ [];
  width = is.width;
  begins = ap (λ ls. ls ++ a ∷ []) is.begins;
  class = is.class;
  block = is.block;
}

-- an attribute where none was before
pub sees-first : (attributes : List Attribute) (a : Attribute) (new : Object) → attributes ≡ [] → Sees (a ∷ []) new
    → Sees (attributes ++ a ∷ []) new
sees-first attributes a new none sees = subst (λ ls. Sees (ls ++ a ∷ []) new) (sym none) sees

-- an attribute of a class that gives no pairs
pub sees-other : (attributes : List Attribute) (a : Attribute) → Sees attributes object.Other
    → Sees (attributes ++ a ∷ []) object.Other
sees-other attributes a (first, more, begins, class) =
    (first, more ++ a ∷ [], ap (λ ls. ls ++ a ∷ []) begins, class)

-- the first origin
pub sees-origin : (attributes : List Attribute) (a : Attribute) (prefix : Option Block) (origin : Option ℕ)
    → Sees attributes (object.Route prefix) → is_named (codes "origin") a.name ≡ true
    → IsKnown (SpellsAsn (value_of a)) origin → Sees (attributes ++ a ∷ []) (object.Held prefix origin)
sees-origin attributes a prefix origin (route, none) named known = (
  route-more attributes prefix a route,
  record {
    holder = a;
    at_holder = first_named-none (codes "origin") attributes a none ∙ rw named refl;
    asn = known;
  },
)

-- an attribute that is no origin
pub sees-more : (attributes : List Attribute) (a : Attribute) (prefix : Option Block)
    → Sees attributes (object.Route prefix) → is_named (codes "origin") a.name ≡ false
    → Sees (attributes ++ a ∷ []) (object.Route prefix)
sees-more attributes a prefix (route, none) named =
    (route-more attributes prefix a route, first_named-none (codes "origin") attributes a none ∙ rw named refl)

-- an attribute behind the first origin
pub sees-behind : (attributes : List Attribute) (a : Attribute) (prefix : Option Block) (origin : Option ℕ)
    → Sees attributes (object.Held prefix origin) → Sees (attributes ++ a ∷ []) (object.Held prefix origin)
sees-behind attributes a prefix origin (route, has) = (
  route-more attributes prefix a route,
  record {
    holder = has.holder;
    at_holder = first_named-some (codes "origin") attributes a has.holder has.at_holder;
    asn = has.asn;
  },
)

route_class : (name wanted : List ℕ) (width : ℕ) (a : Attribute) (prefix : Option Block) → a.name ≡ name
    → is_named wanted name ≡ true → is_named (codes "origin") wanted ≡ false → class_width name ≡ Some width
    → IsKnown (SpellsOfWidth width (value_of a)) prefix → Sees (a ∷ []) (object.Route prefix)
route_class name wanted width a prefix same is differ class known = (
  record { first = a; more = []; width = width; begins = refl; class = ap class_width same ∙ class; block = known },
  rw (ap (is_named (codes "origin")) same ∙ other_name wanted (codes "origin") name is differ) refl,
)

-- the class `route`
pub sees-route : (a : Attribute) (prefix : Option Block) → is_named (codes "route") a.name ≡ true
    → IsKnown (SpellsOfWidth 32 (value_of a)) prefix → Sees (a ∷ []) (object.Route prefix)
sees-route a prefix is known = route_class a.name (codes "route") 32 a prefix refl is refl (rw is refl) known

-- the class `route6`
pub sees-route6 : (a : Attribute) (prefix : Option Block) → is_named (codes "route") a.name ≡ false
    → is_named (codes "route6") a.name ≡ true → IsKnown (SpellsOfWidth 128 (value_of a)) prefix
    → Sees (a ∷ []) (object.Route prefix)
sees-route6 a prefix not is known =
    route_class a.name (codes "route6") 128 a prefix refl is refl (rw (not, is) refl) known

-- another class
pub sees-no_class : (a : Attribute) → is_named (codes "route") a.name ≡ false → is_named (codes "route6") a.name ≡ false
    → Sees (a ∷ []) object.Other
sees-no_class a not nor = (a, [], refl, rw (not, nor) refl)

-- what was read of an object
pub record IsObjectSoFar (text rest : List ℕ) (known : Object) : Type 0 where
  pub done : List Attribute
  pub attributes : (ahead text).attributes ≡ done ++ (ahead rest).attributes
  pub behind : behind_empty (lines_of rest) ≡ behind_empty (lines_of text)
  pub sees : Sees done known
  pub shorter : length rest ≤ length text

pub object-started : (text : List ℕ) → IsObjectSoFar text text object.New
object-started text =
    record { done = []; attributes = refl; behind = refl; sees = refl; shorter = omega arith }

-- a line that begins no attribute
pub object-passed : (text rest line more : List ℕ) (known : Object) (step : Continued → Continued)
    → IsObjectSoFar text rest known → lines_of rest ≡ line ∷ lines_of more → length more < length rest
    → Does line step → ((all : Continued) → (step all).attributes ≡ all.attributes) → IsObjectSoFar text more known
object-passed text rest line more known step so_far cut less is same =
    let one = ahead-does rest line more step cut is in
    let short = so_far.shorter in
    record {
      done = so_far.done;
      attributes = so_far.attributes
          ∙ ap (λ ls. so_far.done ++ ls) (ap (λ a. a.attributes) one.0 ∙ same (ahead more));
      behind = sym one.1 ∙ so_far.behind;
      sees = so_far.sees;
      shorter = omega arith;
    }

abbrev pub attribute : List ℕ → List (List ℕ) → Attribute
attribute name parts = record { name = name; parts = parts }

-- an attribute, with all that continues its value
pub object-more : (text rest line more after name part : List ℕ) (known new : Object) → IsObjectSoFar text rest known
    → lines_of rest ≡ line ∷ lines_of more → length more < length rest → Does line (with_attribute name part)
    → (ahead after).attributes ≡ (ahead more).attributes → behind_empty (lines_of after) ≡ behind_empty (lines_of more)
    → length after ≤ length more
    → ((attributes : List Attribute) → Sees attributes known
    → Sees (attributes ++ attribute name (part ∷ (ahead more).parts) ∷ []) new)
    → IsObjectSoFar text after new
object-more text rest line more after name part known new so_far cut less is attributes behind small go =
    let one = ahead-does rest line more (with_attribute name part) cut is in
    let short = so_far.shorter in
    let a = attribute name (part ∷ (ahead more).parts) in
    record {
      done = so_far.done ++ a ∷ [];
      attributes = so_far.attributes ∙ ap (λ ls. so_far.done ++ ls) (ap (λ all. all.attributes) one.0)
          ∙ ap (λ ls. so_far.done ++ a ∷ ls) (sym attributes)
          ∙ sym (append_assoc so_far.done (a ∷ []) (ahead after).attributes);
      behind = behind ∙ sym one.1 ∙ so_far.behind;
      sees = go so_far.done so_far.sees;
      shorter = omega arith;
    }

-- where no attribute follows, the object was read
pub object-read : (text rest : List ℕ) (known : Object) (one : Outcome) → IsObjectSoFar text rest known
    → (ahead rest).attributes ≡ []
    → ((attributes : List Attribute) → Sees attributes known → IsOnly AttributesComeTo attributes one)
    → IsOnly ObjectComesTo (before_empty (lines_of text)) one
object-read text rest known one so_far none go =
    let all : so_far.done ≡ (ahead text).attributes =
    sym (so_far.attributes ∙ ap (λ ls. so_far.done ++ ls) none ∙ append-nil so_far.done) in
    let is = go (ahead text).attributes (subst (λ ls. Sees ls known) all so_far.sees) in
    record { found = is.found; only = is.only }

-- an object without an attribute, or of a class that gives no pairs, is ignored
pub ignored-new : (attributes : List Attribute) → attributes ≡ [] → IsOnly AttributesComeTo attributes outcome.Ignored
ignored-new [] none = record { found = refl; only = λ other is. sym is }
ignored-new (a ∷ more) none = absurd cc

pub ignored-other : (attributes : List Attribute) → Sees attributes object.Other
    → IsOnly AttributesComeTo attributes outcome.Ignored
ignored-other attributes (first, more, begins, class) =
    subst (λ ls. IsOnly AttributesComeTo ls outcome.Ignored) (sym begins)
    (record {
      found = subst (λ c. ClassComesTo c first (first ∷ more) outcome.Ignored) (sym class) refl;
      only = λ other is. sym (subst (λ c. ClassComesTo c first (first ∷ more) other) class is);
    })

to_class : (attributes : List Attribute) (first : Attribute) (more : List Attribute) (width : ℕ)
    → attributes ≡ first ∷ more → class_width first.name ≡ Some width → (one : Outcome)
    → AttributesComeTo attributes one → RouteComesTo width first attributes one
to_class attributes first more width begins class one =
    subst (λ ls. AttributesComeTo ls one → RouteComesTo width first ls one) (sym begins)
    (λ is. subst (λ c. ClassComesTo c first (first ∷ more) one) class is)

from_class : (attributes : List Attribute) (first : Attribute) (more : List Attribute) (width : ℕ)
    → attributes ≡ first ∷ more → class_width first.name ≡ Some width → (one : Outcome)
    → RouteComesTo width first attributes one → AttributesComeTo attributes one
from_class attributes first more width begins class one =
    subst (λ ls. RouteComesTo width first ls one → AttributesComeTo ls one) (sym begins)
    (λ is. subst (λ c. ClassComesTo c first (first ∷ more) one) (sym class) is)

-- what an object of a class that gives pairs comes to
route_only : (attributes : List Attribute) (prefix : Option Block) (route : IsRoute attributes prefix) (one : Outcome)
    → RouteComesTo route.width route.first attributes one
    → ((other : Outcome) → RouteComesTo route.width route.first attributes other → one ≡ other)
    → IsOnly AttributesComeTo attributes one
route_only attributes prefix route one is only = record {
  found = from_class attributes route.first route.more route.width route.begins route.class one is;
  only = λ other found.
      only other (to_class attributes route.first route.more route.width route.begins route.class other found);
}

skipped_only : (width : ℕ) (first : Attribute) (attributes : List Attribute)
    → ((prefix : Block) (origin : ℕ) → ¬ (GivesRoute width first attributes prefix origin))
    → (other : Outcome) → RouteComesTo width first attributes other → outcome.Skipped ≡ other
skipped_only width first attributes none (outcome.Pair p o) is = absurd (none p o is)
skipped_only width first attributes none outcome.Skipped is = refl
skipped_only width first attributes none outcome.Ignored is = absurd is

-- an object that gives no pair is skipped
skipped : (attributes : List Attribute) (prefix : Option Block) (route : IsRoute attributes prefix)
    → ((p : Block) (o : ℕ) → ¬ (GivesRoute route.width route.first attributes p o))
    → IsOnly AttributesComeTo attributes outcome.Skipped
skipped attributes prefix route none =
    route_only attributes prefix route outcome.Skipped none (skipped_only route.width route.first attributes none)

pair_only : (width : ℕ) (first : Attribute) (attributes : List Attribute) (prefix : Block) (origin : ℕ)
    → GivesRoute width first attributes prefix origin
    → ((p : Block) (o : ℕ) → GivesRoute width first attributes p o → (prefix ≡ p) × (origin ≡ o))
    → (other : Outcome) → RouteComesTo width first attributes other → outcome.Pair prefix origin ≡ other
pair_only width first attributes prefix origin gives only (outcome.Pair p o) is =
    let same = only p o is in
    ap (λ b. outcome.Pair b origin) same.0 ∙ ap (λ n. outcome.Pair p n) same.1
pair_only width first attributes prefix origin gives only outcome.Skipped is = absurd (is prefix origin gives)
pair_only width first attributes prefix origin gives only outcome.Ignored is = absurd is

same_holder : (o : Option Attribute) (a b : Attribute) → o ≡ Some a → o ≡ Some b → b ≡ a
same_holder o a b is is_too = cc

-- any origin that the object gives is the one that is known
origin_is : (width : ℕ) (first : Attribute) (attributes : List Attribute) (origin : Option ℕ) (p : Block) (o : ℕ)
    → HasOrigin attributes origin → GivesRoute width first attributes p o → origin ≡ Some o
origin_is width first attributes origin p o has gives =
    let same = same_holder (first_named (codes "origin") attributes) has.holder gives.holder has.at_holder
    gives.at_holder in
    has.asn.only o (subst (λ a. SpellsAsn (value_of a) o) same gives.asn)

-- where the first origin was seen
pub held : (attributes : List Attribute) (prefix : Option Block) (origin : Option ℕ)
    → Sees attributes (object.Held prefix origin) → IsOnly AttributesComeTo attributes (outcome_from prefix origin)
held attributes None origin (route, has) =
    skipped attributes None route (λ p o gives. let e = route.block.only p gives.block in cc)
held attributes (Some prefix) None (route, has) =
    skipped attributes (Some prefix) route
    (λ p o gives. let e = origin_is route.width route.first attributes None p o has gives in cc)
held attributes (Some prefix) (Some origin) (route, has) =
    let gives : GivesRoute route.width route.first attributes prefix origin =
    record { block = route.block.is; holder = has.holder; at_holder = has.at_holder; asn = has.asn.is } in
    route_only attributes (Some prefix) route (outcome.Pair prefix origin) gives
    (pair_only route.width route.first attributes prefix origin gives
    (λ p o other.
    let e = route.block.only p other.block in
    let f = origin_is route.width route.first attributes (Some origin) p o has other in
    (cc, cc)))

-- where no origin was seen
pub skipped-route : (attributes : List Attribute) (prefix : Option Block) → Sees attributes (object.Route prefix)
    → IsOnly AttributesComeTo attributes outcome.Skipped
skipped-route attributes prefix (route, none) =
    skipped attributes prefix route (λ p o gives. let at = gives.at_holder in cc)
