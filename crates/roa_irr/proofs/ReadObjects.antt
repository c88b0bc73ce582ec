-- How far the objects of a text were read, and what follows at the end of the reading.
use Rattle.std.proofs.Common.{◌≡◌, ℕ, ◌+◌, ◌≤◌, ◌<◌, List, [], ◌∷◌, ◌++◌, length, Option, Some, None, Bor}
use Rattle.std.proofs.Common.{refl, sym, ap, subst, ◌∙◌, arith, length-append, append-nil, append_assoc}
use Rattle.std.specs.Prelude.{option_map, IfSome}
use Rattle.std.specs.List.{AllZip, onto_first, slice_split}
use Rattle.origin_pairs.specs.Pairs.{Pair}
use Rattle.roa_irr.specs.declared.pairs.Outcome.{Outcome}
use Rattle.roa_irr.specs.Irr.{IsIrrTable, ObjectComesTo, OpensPair, OpensTooManyObjects}
use Rattle.roa_irr.specs.Lines.{is_empty, lines_of, objects_of}
use Rattle.roa_irr.specs.Steps.{before_empty, behind_empty}
use Rattle.roa_irr.specs.Tables.{IsOnly, Table, pairs_max, pairs_of, skipped_of, table_of}
use Rattle.roa_irr.proofs.Outcomes.{zip_begins, zip_found, zip_more, pairs_of-append, skipped_of-append, few_skipped}
use Rattle.roa_irr.proofs.Reading.{same_table}

abbrev pub Objects : Type 0
Objects = List (List (List ℕ))

-- the objects in lines behind an empty one, if there is one
abbrev split_behind : Option (List (List ℕ)) → Objects
split_behind None = []
split_behind (Some lines) = slice_split is_empty lines

split_first : (lines : List (List ℕ))
    → slice_split is_empty lines ≡ before_empty lines ∷ split_behind (behind_empty lines)
split_first [] = refl
split_first ([] ∷ lines) = refl
split_first ((octet ∷ octets) ∷ lines) = ap (onto_first (octet ∷ octets)) (split_first lines)

-- the objects that are left
abbrev pub left_objects : Option (Bor (List ℕ)) → Objects
left_objects None = []
left_objects (Some rest) = objects_of rest.now

-- how much text is left, and one more for the object in it
abbrev pub room : Option (Bor (List ℕ)) → ℕ
room None = 0
room (Some rest) = length rest.now + 1

left_behind : (more : Option (Bor (List ℕ))) → split_behind (option_map (λ r. lines_of r.now) more) ≡ left_objects more
left_behind None = refl
left_behind (Some rest) = refl

-- the first object, and those that are left
objects_of-first : (text : List ℕ) (more : Option (Bor (List ℕ)))
    → option_map (λ r. lines_of r.now) more ≡ behind_empty (lines_of text)
    → objects_of text ≡ before_empty (lines_of text) ∷ left_objects more
objects_of-first text more is =
    split_first (lines_of text)
    ∙ ap (λ o. before_empty (lines_of text) ∷ o) (ap split_behind (sym is) ∙ left_behind more)

room-less : (more : Option (Bor (List ℕ))) (size : ℕ) → IfSome more (λ r. length r.now < size) → room more ≤ size
room-less None size less = omega arith
room-less (Some rest) size less = omega arith

-- these objects were read, up to what is left, and came to this table
pub record IsReadTo (text : List ℕ) (left : Option (Bor (List ℕ))) (table : Table) : Type 0 where
  pub objects : Objects
  pub opens : objects_of text ≡ objects ++ left_objects left
  pub outcomes : List Outcome
  pub each : AllZip (IsOnly ObjectComesTo) objects outcomes
  pub pairs : table.pairs ≡ pairs_of outcomes
  pub skipped : table.skipped ≡ skipped_of outcomes
  pub few : length objects + room left ≤ length text + 1
  pub fits : length table.pairs ≤ pairs_max

-- before the first object is read
pub objects-started : (text : Bor (List ℕ)) (table : Table) → table.pairs ≡ [] → table.skipped ≡ 0
    → IsReadTo text.now (Some text) table
objects-started text table pairs skipped = record {
  objects = [];
  opens = refl;
  outcomes = [];
  each = tt;
  pairs = pairs;
  skipped = skipped;
  few = omega arith;
  fits = let none = ap (λ (ps : List Pair). length ps) pairs in omega arith;
}

-- so many are skipped at most
pub objects-skipped : (text : List ℕ) (left : Option (Bor (List ℕ))) (table : Table) → IsReadTo text left table
    → table.skipped ≤ length text + 1
objects-skipped text left table r =
    let few = few_skipped ObjectComesTo r.objects r.outcomes r.each in
    let all = r.few in
    let is = r.skipped in
    omega arith

-- one more object, and what it comes to
pub objects-more : (text : List ℕ) (rest : Bor (List ℕ)) (more : Option (Bor (List ℕ))) (table new : Table)
    (one : Outcome)
    → IsReadTo text (Some rest) table → IsOnly ObjectComesTo (before_empty (lines_of rest.now)) one
    → option_map (λ r. lines_of r.now) more ≡ behind_empty (lines_of rest.now)
    → IfSome more (λ r. length r.now < length rest.now) → new.pairs ≡ table.pairs ++ pairs_of (one ∷ [])
    → new.skipped ≡ table.skipped + skipped_of (one ∷ []) → length new.pairs ≤ pairs_max → IsReadTo text more new
objects-more text rest more table new one r is behind less pairs skipped fits =
    let object = before_empty (lines_of rest.now) in
    let small = room-less more (length rest.now) less in
    let all = r.few in
    let long = length-append r.objects (object ∷ []) in
    record {
      objects = r.objects ++ object ∷ [];
      opens = r.opens ∙ ap (λ o. r.objects ++ o) (objects_of-first rest.now more behind)
          ∙ sym (append_assoc r.objects (object ∷ []) (left_objects more));
      outcomes = r.outcomes ++ one ∷ [];
      each = zip_more ObjectComesTo r.objects r.outcomes object one r.each is;
      pairs = pairs ∙ ap (λ ps. ps ++ pairs_of (one ∷ [])) r.pairs ∙ sym (pairs_of-append r.outcomes (one ∷ []));
      skipped = skipped ∙ ap (λ n. n + skipped_of (one ∷ [])) r.skipped
          ∙ sym (skipped_of-append r.outcomes (one ∷ []));
      few = omega arith;
      fits = fits;
    }

-- where nothing is left, the table is that of the text
pub objects-read : (text : List ℕ) (table : Table) → IsReadTo text None table → IsIrrTable text table
objects-read text table r = record {
  outcomes = r.outcomes;
  each = subst (λ o. AllZip ObjectComesTo o r.outcomes) (sym (r.opens ∙ append-nil r.objects))
      (zip_found ObjectComesTo r.objects r.outcomes r.each);
  value = same_table table (table_of r.outcomes) r.pairs r.skipped;
}

-- a table of the text begins with the pairs that were read
objects-begin : (text : List ℕ) (left : Option (Bor (List ℕ))) (table other : Table) → IsReadTo text left table
    → IsIrrTable text other
    → (after : List Outcome) × AllZip ObjectComesTo (left_objects left) after
    × (other.pairs ≡ table.pairs ++ pairs_of after) × (other.skipped ≡ table.skipped + skipped_of after)
objects-begin text left table other r is =
    let all = zip_begins ObjectComesTo r.objects (left_objects left) r.outcomes is.outcomes r.each
    (subst (λ o. AllZip ObjectComesTo o is.outcomes) r.opens is.each) in (
      all.0,
      all.2,
      ap (λ t. t.pairs) is.value ∙ ap pairs_of all.1 ∙ pairs_of-append r.outcomes all.0
          ∙ ap (λ ps. ps ++ pairs_of all.0) (sym r.pairs),
      ap (λ t. t.skipped) is.value ∙ ap skipped_of all.1 ∙ skipped_of-append r.outcomes all.0
          ∙ ap (λ n. n + skipped_of all.0) (sym r.skipped),
    )

none_after : (after : List Outcome) → AllZip ObjectComesTo [] after → after ≡ []
none_after [] all = refl
none_after (o ∷ after) all = absurd all

-- a text has one table
pub objects-only : (text : List ℕ) (table other : Table) → IsReadTo text None table → IsIrrTable text other
    → table ≡ other
objects-only text table other r is =
    let front = objects-begin text None table other r is in
    let no_after = none_after front.0 front.1 in
    same_table table other
    (sym (front.2 ∙ ap (λ os. table.pairs ++ pairs_of os) no_after ∙ append-nil table.pairs))
    (let e = front.3 in let n = ap skipped_of no_after in omega arith)

-- the objects that were read and the next one
module _ (text : List ℕ) (rest : Bor (List ℕ)) (more : Option (Bor (List ℕ))) (table : Table) (one : Outcome)
    (r : IsReadTo text (Some rest) table) (is : IsOnly ObjectComesTo (before_empty (lines_of rest.now)) one)
    (behind : option_map (λ r. lines_of r.now) more ≡ behind_empty (lines_of rest.now)) where
  abbrev with_next : Objects
  with_next = r.objects ++ before_empty (lines_of rest.now) ∷ []

  after_one : objects_of text ≡ with_next ++ left_objects more
  after_one =
      r.opens ∙ ap (λ o. r.objects ++ o) (objects_of-first rest.now more behind)
      ∙ sym (append_assoc r.objects (before_empty (lines_of rest.now) ∷ []) (left_objects more))

  come : AllZip (IsOnly ObjectComesTo) with_next (r.outcomes ++ one ∷ [])
  come = zip_more ObjectComesTo r.objects r.outcomes (before_empty (lines_of rest.now)) one r.each is

  pairs_with : length (pairs_of (r.outcomes ++ one ∷ [])) ≡ length table.pairs + length (pairs_of (one ∷ []))
  pairs_with =
      let sum = length-append (pairs_of r.outcomes) (pairs_of (one ∷ [])) in
      let whole = ap (λ (ps : List Pair). length ps) (pairs_of-append r.outcomes (one ∷ [])) in
      let same = ap (λ (ps : List Pair). length ps) r.pairs in
      omega arith

  -- where the next one gives a pair, some of them do
  pub objects-pair : 0 < length (pairs_of (one ∷ [])) → OpensPair text
  objects-pair pair = record {
    objects = with_next;
    more = left_objects more;
    outcomes = r.outcomes ++ one ∷ [];
    opens = after_one;
    each = zip_found ObjectComesTo with_next (r.outcomes ++ one ∷ []) come;
    some = let all = pairs_with in omega arith;
  }

  -- where there is no room for its pair, the text has too many
  pub objects-many : pairs_max < length table.pairs + length (pairs_of (one ∷ [])) → OpensTooManyObjects text
  objects-many many = record {
    objects = with_next;
    more = left_objects more;
    outcomes = r.outcomes ++ one ∷ [];
    opens = after_one;
    each = zip_found ObjectComesTo with_next (r.outcomes ++ one ∷ []) come;
    many = let all = pairs_with in omega arith;
  }

  pub objects-too_many : pairs_max < length table.pairs + length (pairs_of (one ∷ [])) → (other : Table)
      → IsIrrTable text other → pairs_max < length other.pairs
  objects-too_many many other of =
      let all = zip_begins ObjectComesTo with_next (left_objects more) (r.outcomes ++ one ∷ []) of.outcomes come
      (subst (λ o. AllZip ObjectComesTo o of.outcomes) after_one of.each) in
      let same = ap (λ t. length t.pairs) of.value in
      let parts = ap (λ (os : List Outcome). length (pairs_of os)) all.1 in
      let whole = ap (λ (ps : List Pair). length ps) (pairs_of-append (r.outcomes ++ one ∷ []) all.0) in
      let sum = length-append (pairs_of (r.outcomes ++ one ∷ [])) (pairs_of all.0) in
      let less = pairs_with in
      omega arith
