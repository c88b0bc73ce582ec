-- What is so or not so: of parts, of numbers up to a bound, and of the words that name a generator.
use Rattle.std.proofs.Common.{◌≡◌, ◌⊎◌, ℕ, zero, suc, ◌≤◌, Bool, true, false, List, ◌∷◌, ◌++◌, refl, subst, inl, inr, arith, decimal}
use Rattle.std.specs.Bool.{Decides}
use Rattle.std.specs.Str.{bytes_eq}
use Rattle.std.proofs.lemmas.Slice.Eq.{bytes_eq-Decides}
use Rattle.feed_io.specs.GenWords.{SpellsGen}
use Rattle.feed_io.specs.declared.gen_words.GenSpec.{GenSpec}

pub decided : {P : Type 0} (r : Bool) → Decides r P → P ⊎ (¬ P)
decided true is = inl (is.0 refl)
decided false is = inr (λ p. let clash = is.1 p in cc)

pub both_or_not : {P Q : Type 0} → P ⊎ (¬ P) → Q ⊎ (¬ Q) → (P × Q) ⊎ (¬ (P × Q))
both_or_not (inl p) (inl q) = inl (p, q)
both_or_not (inl p) (inr never) = inr (λ pq. never pq.1)
both_or_not (inr never) q = inr (λ pq. never pq.0)

pub either_or_not : {P Q : Type 0} → P ⊎ (¬ P) → Q ⊎ (¬ Q) → (P ⊎ Q) ⊎ (¬ (P ⊎ Q))
either_or_not (inl p) q = inl (inl p)
either_or_not (inr never) (inl q) = inl (inr q)
either_or_not (inr never) (inr none) = inr (λ one. elim one [ inl p ↦ never p | inr q ↦ none q ])

pub turned : {P Q : Type 0} → (P → Q) → (Q → P) → P ⊎ (¬ P) → Q ⊎ (¬ Q)
turned forth back (inl p) = inl (forth p)
turned forth back (inr never) = inr (λ q. never (back q))

pub not_or : {P : Type 0} → P ⊎ (¬ P) → (¬ P) ⊎ (¬ (¬ P))
not_or (inl p) = inr (λ never. never p)
not_or (inr never) = inl never

pub same_or_not : (xs ys : List ℕ) → (xs ≡ ys) ⊎ (¬ (xs ≡ ys))
same_or_not xs ys = decided (bytes_eq xs ys) (bytes_eq-Decides xs ys)

pub implies_or_not : {P Q : Type 0} → P ⊎ (¬ P) → Q ⊎ (¬ Q) → (P → Q) ⊎ (¬ (P → Q))
implies_or_not (inr never) q = inl (λ p. absurd (never p))
implies_or_not (inl p) (inl q) = inl (λ so. q)
implies_or_not (inl p) (inr never) = inr (λ turn. never (turn p))

-- a number up to a bound is so
abbrev pub IsSome : (ℕ → Type 0) → ℕ → Type 0
IsSome P most = (n : ℕ) × (n ≤ most) × P n

last_or_less : (n most : ℕ) → n ≤ suc most → (n ≡ suc most) ⊎ (n ≤ most)
last_or_less n most within = grind (arith, within)

pub some_or_not : (P : ℕ → Type 0) → ((n : ℕ) → P n ⊎ (¬ (P n))) → (most : ℕ) → IsSome P most ⊎ (¬ (IsSome P most))
some_or_not P decide zero =
    turned (λ p. (zero, omega arith, p))
    (λ (one : IsSome P zero). let none : one.0 ≡ zero = omega (arith, one.1) in subst P none one.2) (decide zero)
some_or_not P decide (suc most) = by_last (decide (suc most)) (some_or_not P decide most)
  where
    by_last : P (suc most) ⊎ (¬ (P (suc most))) → IsSome P most ⊎ (¬ (IsSome P most))
        → IsSome P (suc most) ⊎ (¬ (IsSome P (suc most)))
    by_last (inl p) rest = inl (suc most, omega arith, p)
    by_last (inr never) (inl one) = inl (one.0, omega (arith, one.1), one.2)
    by_last (inr never) (inr none) =
        inr (λ (one : IsSome P (suc most)). elim (last_or_less one.0 most one.1) [
          | inl last ↦ never (subst P last one.2)
          | inr less ↦ none (one.0, less, one.2)
        ])

least_or_not : (n : ℕ) → (1 ≤ n) ⊎ (¬ (1 ≤ n))
least_or_not zero = inr (λ less. absurd (omega (arith, less)))
least_or_not (suc n) = inl (omega arith)

-- the word spells a generator of this seed and this count, which is at least 1
abbrev Spells : List ℕ → ℕ → ℕ → Type 0
Spells word seed count = (1 ≤ count) × (word ≡ 103 ∷ 101 ∷ 110 ∷ 58 ∷ decimal seed ++ (58 ∷ decimal count))

pub generator_or_not : (word : List ℕ)
    → ((spec : GenSpec) × SpellsGen word spec) ⊎ (¬ ((spec : GenSpec) × SpellsGen word spec))
generator_or_not word =
    turned (λ (one : IsSome (λ seed. IsSome (λ count. Spells word seed count) 4000000) 65535). (
      record { seed = one.0; count = one.2.0 },
      record { seed = one.1; some = one.2.2.0; count = one.2.1; parts = one.2.2.1 },
    ))
    (λ one. (one.0.seed, one.1.seed, (one.0.count, one.1.count, (one.1.some, one.1.parts))))
    (some_or_not (λ seed. IsSome (λ count. Spells word seed count) 4000000)
    (λ seed. some_or_not (λ count. Spells word seed count)
    (λ count. both_or_not (least_or_not count)
    (same_or_not word (103 ∷ 101 ∷ 110 ∷ 58 ∷ decimal seed ++ (58 ∷ decimal count)))) 4000000) 65535)
