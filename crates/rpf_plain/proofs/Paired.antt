-- Walks over pairs, and what pairs give to a prefix.
use Rattle.std.proofs.Common.{◌≡◌, ◌↔◌, inl, inr, ℕ, List, [], ◌∷◌, refl, subst}
use Rattle.std.specs.BTreeMap.{BTreeMap}
use Rattle.urpf_base.specs.Address.{Block}
use Rattle.urpf_base.specs.Lists.{Has}
use Rattle.origin_pairs.specs.Pairs.{Pair}
use Rattle.rpf_plain.specs.Sets.{paired}
use Rattle.rpf_plain.specs.Walks.{AreReaches, GivesPrefix, GivesToSetZ, IsPairForSetZ, IsPairListed, SomePair}
use Rattle.rpf_plain.specs.declared.origins.Reach.{Reach}
use Rattle.rpf_plain.specs.declared.rows.Row.{Row}
use Rattle.rpf_plain.proofs.Members.{in_paired}

-- some pair is so by other words
pub pair_by : (P Q : Pair → Type 0) → ((pair : Pair) → P pair → Q pair) → (pairs : List Pair) → SomePair P pairs
    → SomePair Q pairs
pair_by P Q by [] h = h
pair_by P Q by (pair ∷ pairs) (inl here) = inl (by pair here)
pair_by P Q by (pair ∷ pairs) (inr later) = inr (pair_by P Q by pairs later)

-- a pair of the list that is so
pub the_pair : (P : Pair → Type 0) (pairs : List Pair) → SomePair P pairs → (pair : Pair) × Has pairs pair × P pair
the_pair P [] h = absurd h
the_pair P (pair ∷ pairs) (inl here) = (pair, inl refl, here)
the_pair P (pair ∷ pairs) (inr later) = let (q, has, is) = the_pair P pairs later in (q, inr has, is)

pub some_pair : (P : Pair → Type 0) (pairs : List Pair) (pair : Pair) → Has pairs pair → P pair → SomePair P pairs
some_pair P [] pair none is = absurd none
some_pair P (q ∷ pairs) pair (inl same) is = inl (subst P same is)
some_pair P (q ∷ pairs) pair (inr later) is = inr (some_pair P pairs pair later is)

pub no_pair : (P : Pair → Type 0) (pairs : List Pair) → pairs ≡ [] → ¬ SomePair P pairs
no_pair P [] e h = h
no_pair P (pair ∷ pairs) e h = cc

-- the prefixes of the pairs whose AS is in a list
pub by_pairs : (pairs : List Pair) (ns : List ℕ) (Q : ℕ → Type 0) → ((n : ℕ) → (Has ns n ↔ Q n)) → (p : Block)
    → (Has (paired pairs ns) p ↔ SomePair (λ pair. (pair.0 ≡ p) × Q pair.1) pairs)
by_pairs pairs ns Q told p =
    let P : Pair → Type 0 = λ pair. (pair.0 ≡ p) × Q pair.1 in (
      λ h. let (n, has, of) = (in_paired pairs ns p).0 h in some_pair P pairs (p, n) has (refl, (told n).0 of),
      λ h.
          let (pair, has, (here, of)) = the_pair P pairs h in
          (in_paired pairs ns p).1 (pair.1, subst (λ q. Has pairs (q, pair.1)) here has, (told pair.1).1 of),
    )

module _ (rows : List Row) (customers : ℕ) (origins : BTreeMap ℕ Reach) (are : AreReaches rows customers origins)
    (pairs : List Pair) (p : Block) where
  -- what is known of the AS of a pair says whether the pair is for the list of an interface
  pub given : (i : ℕ)
      → (SomePair (GivesPrefix origins customers i p) pairs ↔ SomePair (IsPairListed rows customers i p) pairs)
  given i = (
    pair_by (GivesPrefix origins customers i p) (IsPairListed rows customers i p)
        (λ pair h. (h.0, (h.1.0, (are.own pair.1 i).0 h.1.1))) pairs,
    pair_by (IsPairListed rows customers i p) (GivesPrefix origins customers i p)
        (λ pair h. (h.0, (h.1.0, (are.own pair.1 i).1 h.1.1))) pairs,
  )

  -- and whether it is for Set Z
  pub given_to_z : SomePair (GivesToSetZ origins p) pairs ↔ SomePair (IsPairForSetZ rows customers p) pairs
  given_to_z = (
    pair_by (GivesToSetZ origins p) (IsPairForSetZ rows customers p) (λ pair h. (h.0, (are.in_set_a pair.1).0 h.1))
        pairs,
    pair_by (IsPairForSetZ rows customers p) (GivesToSetZ origins p) (λ pair h. (h.0, (are.in_set_a pair.1).1 h.1))
        pairs,
  )
