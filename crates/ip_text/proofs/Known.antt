-- A fact that holds or does not.
use Rattle.std.proofs.Common.{◌≡◌, ℕ, zero, suc, ◌<◌, ◌⊎◌, inl, inr, Bool, true, false, List, refl, subst, arith}
use Rattle.std.specs.Bool.{Decides}
use Rattle.std.proofs.lemmas.Bool.Decides.{not_from_Decides, leb_tells, Decides-eqb, Decides-ltb}
use Rattle.std.proofs.lemmas.Slice.Eq.{bytes_eq-Decides}

abbrev pub Known : Type 0 → Type 0
Known P = P ⊎ (P → ⊥)

pub known_by : (P : Type 0) (b : Bool) → Decides b P → Known P
known_by P true d = inl (d.0 refl)
known_by P false d = inr (not_from_Decides false d refl)

pub known_both : (P Q : Type 0) → Known P → Known Q → Known (P × Q)
known_both P Q (inl p) (inl q) = inl (p, q)
known_both P Q (inl p) (inr never) = inr (λ h. never h.1)
known_both P Q (inr never) q = inr (λ h. never h.0)

pub known_either : (P Q : Type 0) → Known P → Known Q → Known (P ⊎ Q)
known_either P Q (inl p) other = inl (inl p)
known_either P Q (inr never) (inl q) = inl (inr q)
known_either P Q (inr never) (inr none) = inr (λ h. elim h [ inl p ↦ never p | inr q ↦ none q ])

pub known_like : (P Q : Type 0) → (P → Q) → (Q → P) → Known P → Known Q
known_like P Q to back (inl p) = inl (to p)
known_like P Q to back (inr never) = inr (λ q. never (back q))

pub known_same : (a b : ℕ) → Known (a ≡ b)
known_same a b = known_by (a ≡ b) _ (Decides-eqb a b)

pub known_less : (a b : ℕ) → Known (a < b)
known_less a b = known_by (a < b) _ (Decides-ltb a b)

pub known_text : (xs ys : List ℕ) → Known (xs ≡ ys)
known_text xs ys = known_by (xs ≡ ys) _ (bytes_eq-Decides xs ys)

one_more : (P : ℕ → Type 0) (n : ℕ) → Known (P n) → Known ((k : ℕ) × (k < n) × P k)
    → Known ((k : ℕ) × (k < suc n) × P k)
one_more P n (inl p) others = inl (n, omega arith, p)
one_more P n (inr never) (inl h) = inl (h.0, omega (arith, h.1), h.2)
one_more P n (inr never) (inr none) =
    inr (λ h. elim (leb_tells (suc h.0) n) [
      | inl l ↦ none (h.0, omega (arith, l.1), h.2)
      | inr l ↦ let same : h.0 ≡ n = omega (arith, l.1, h.1) in never (subst P same h.2)
    ])

-- one of the numbers below
pub known_below : (P : ℕ → Type 0) → ((k : ℕ) → Known (P k)) → (n : ℕ) → Known ((k : ℕ) × (k < n) × P k)
known_below P each zero = inr (λ h. let never = h.1 in omega arith)
known_below P each (suc n) = one_more P n (each n) (known_below P each n)
