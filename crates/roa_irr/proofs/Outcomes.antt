-- What records and objects come to, one after the other.
use Rattle.std.proofs.Common.{◌≡◌, ℕ, ◌+◌, ◌≤◌, List, [], ◌∷◌, ◌++◌, length, Option, Some}
use Rattle.std.proofs.Common.{refl, sym, ap, ◌∙◌, arith}
use Rattle.std.specs.List.{AllZip}
use Rattle.urpf_base.specs.Address.{Block}
use Rattle.roa_irr.specs.declared.pairs.Outcome.{Outcome}
use Rattle.roa_irr.specs.declared.pairs.Outcome.TheVariants as outcome
use Rattle.origin_pairs.specs.Pairs.{Pair}
use Rattle.roa_irr.specs.Tables.{IsOnly, pairs_of, skipped_of}
use Rattle.roa_irr.specs.Vrps.{ComesTo, GivesPair}

abbrev pub Rows : Type 0
Rows = List (List (List ℕ))

abbrev pub pair : Block → ℕ → Pair
pair prefix origin = (prefix, origin)

skipped_only : (fields : List (List ℕ)) → ((prefix : Block) (origin : ℕ) → ¬ (GivesPair fields prefix origin))
    → (other : Outcome) → ComesTo fields other → outcome.Skipped ≡ other
skipped_only fields none (outcome.Pair p o) g = absurd (none p o g)
skipped_only fields none outcome.Skipped g = refl
skipped_only fields none outcome.Ignored g = absurd g

pair_only : (fields : List (List ℕ)) (prefix : Block) (origin : ℕ) → GivesPair fields prefix origin
    → ((p : Block) (o : ℕ) → GivesPair fields p o → Some (pair prefix origin) ≡ Some (pair p o))
    → (other : Outcome) → ComesTo fields other → outcome.Pair prefix origin ≡ other
pair_only fields prefix origin gives only (outcome.Pair p o) g =
    let e = only p o g in
    let same : pair prefix origin ≡ pair p o = cc in ap (λ (q : Pair). outcome.Pair q.0 q.1) same
pair_only fields prefix origin gives only outcome.Skipped g = absurd (g prefix origin gives)
pair_only fields prefix origin gives only outcome.Ignored g = absurd g

-- a record without a pair is skipped
pub is_skipped : (fields : List (List ℕ)) → ((prefix : Block) (origin : ℕ) → ¬ (GivesPair fields prefix origin))
    → IsOnly ComesTo fields outcome.Skipped
is_skipped fields none = record { found = none; only = skipped_only fields none }

-- a record with a pair comes to it
pub is_pair : (fields : List (List ℕ)) (prefix : Block) (origin : ℕ) → GivesPair fields prefix origin
    → ((p : Block) (o : ℕ) → GivesPair fields p o → Some (pair prefix origin) ≡ Some (pair p o))
    → IsOnly ComesTo fields (outcome.Pair prefix origin)
is_pair fields prefix origin gives only = record { found = gives; only = pair_only fields prefix origin gives only }

pub pairs_of-append : (a b : List Outcome) → pairs_of (a ++ b) ≡ pairs_of a ++ pairs_of b
pairs_of-append [] b = refl
pairs_of-append (outcome.Pair p o ∷ a) b = ap (λ t. (p, o) ∷ t) (pairs_of-append a b)
pairs_of-append (outcome.Skipped ∷ a) b = pairs_of-append a b
pairs_of-append (outcome.Ignored ∷ a) b = pairs_of-append a b

pub skipped_of-append : (a b : List Outcome) → skipped_of (a ++ b) ≡ skipped_of a + skipped_of b
skipped_of-append [] b = omega arith
skipped_of-append (outcome.Pair p o ∷ a) b = skipped_of-append a b
skipped_of-append (outcome.Skipped ∷ a) b = let e = skipped_of-append a b in omega arith
skipped_of-append (outcome.Ignored ∷ a) b = skipped_of-append a b

-- items, and what each comes to
module _ {A : Type 0} (R : A → Outcome → Type 0) where
  -- one more item, and what it comes to
  pub zip_more : (items : List A) (outcomes : List Outcome) (item : A) (one : Outcome)
      → AllZip (IsOnly R) items outcomes → IsOnly R item one
      → AllZip (IsOnly R) (items ++ item ∷ []) (outcomes ++ one ∷ [])
  zip_more [] [] item one all is = (is, tt)
  zip_more [] (o ∷ outcomes) item one all is = absurd all
  zip_more (r ∷ items) [] item one all is = absurd all
  zip_more (r ∷ items) (o ∷ outcomes) item one all is = (all.0, zip_more items outcomes item one all.1 is)

  pub zip_found : (items : List A) (outcomes : List Outcome) → AllZip (IsOnly R) items outcomes
      → AllZip R items outcomes
  zip_found [] [] all = tt
  zip_found [] (o ∷ outcomes) all = absurd all
  zip_found (r ∷ items) [] all = absurd all
  zip_found (r ∷ items) (o ∷ outcomes) all = (all.0.found, zip_found items outcomes all.1)

  -- whatever all items come to begins with what these come to
  pub zip_begins : (items more : List A) (outcomes all : List Outcome) → AllZip (IsOnly R) items outcomes
      → AllZip R (items ++ more) all
      → (rest : List Outcome) × (all ≡ outcomes ++ rest) × AllZip R more rest
  zip_begins [] more [] all is found = (all, refl, found)
  zip_begins [] more (o ∷ outcomes) all is found = absurd is
  zip_begins (r ∷ items) more [] all is found = absurd is
  zip_begins (r ∷ items) more (o ∷ outcomes) [] is found = absurd found
  zip_begins (r ∷ items) more (o ∷ outcomes) (a ∷ all) is found =
      let go = zip_begins items more outcomes all is.1 found.1 in
      let same : a ≡ o = sym (is.0.only a found.0) in
      (go.0, ap (λ x. x ∷ all) same ∙ ap (λ t. o ∷ t) go.1, go.2)

  -- no more are skipped than there are items
  pub few_skipped : (items : List A) (outcomes : List Outcome) → AllZip (IsOnly R) items outcomes
      → skipped_of outcomes ≤ length items
  few_skipped [] [] all = omega arith
  few_skipped [] (o ∷ outcomes) all = absurd all
  few_skipped (r ∷ items) [] all = absurd all
  few_skipped (r ∷ items) (outcome.Pair p o ∷ outcomes) all = let few = few_skipped items outcomes all.1 in omega arith
  few_skipped (r ∷ items) (outcome.Skipped ∷ outcomes) all = let few = few_skipped items outcomes all.1 in omega arith
  few_skipped (r ∷ items) (outcome.Ignored ∷ outcomes) all = let few = few_skipped items outcomes all.1 in omega arith

pub both : (p q : Block) (a b : ℕ) → Some p ≡ Some q → Some a ≡ Some b → Some (pair p a) ≡ Some (pair q b)
both p q a b same_p same_a = cc

pub same_text : (a b : List ℕ) (o : Option (List ℕ)) → Some a ≡ o → o ≡ Some b → a ≡ b
same_text a b o x y = cc
