-- Members of sets that are numbers.
use Rattle.std.proofs.Common.{◌≡◌, ◌≢◌, ◌<◌, ◌≤◌, ◌⊎◌, ◌↔◌, ◌^◌, ◌%◌, ◌*◌, ◌-◌, ℕ, max, min, inl, inr, sym, ◌∙◌, subst}
use Rattle.std.proofs.Common.{arith, bit_and, bit_or, w64}
use Rattle.std.specs.Int.{bit_at}
use Rattle.std.proofs.lemmas.Bool.{cases_lt}
use Rattle.std.proofs.lemmas.Nat.{and_le_l}
use Rattle.std.proofs.lemmas.Nat.Bits.{bit_at-lt, bit_at_and, bit_at_or, bit_at_above, bit_at_set_same, bit_at_set_other}
use Rattle.std.proofs.lemmas.Nat.Bits.{bit_at_clear_same, bit_at_clear_other, same_from_bits}
use Rattle.urpf_base.specs.Masks.{InMask}

-- a bit is 0 or 1, so it is told by whether it is 1
pub bit_from_one : (m n : ℕ) → m < 2 → n < 2 → (m ≡ 1 → n ≡ 1) → (n ≡ 1 → m ≡ 1) → m ≡ n
bit_from_one m n p q to from = grind arith

pub masks_same : (a b : ℕ) → ((i : ℕ) → (InMask a i ↔ InMask b i)) → a ≡ b
masks_same a b both =
    same_from_bits a b
    (λ i. bit_from_one (bit_at a i) (bit_at b i) (bit_at-lt a i) (bit_at-lt b i) (both i).0 (both i).1)

pub max_is_one : (m n : ℕ) → m < 2 → n < 2 → max m n ≡ 1 → (m ≡ 1) ⊎ (n ≡ 1)
max_is_one m n p q h = grind arith

pub one_is_max : (m n : ℕ) → m < 2 → n < 2 → (m ≡ 1) ⊎ (n ≡ 1) → max m n ≡ 1
one_is_max m n p q (inl h) = omega arith
one_is_max m n p q (inr h) = omega arith

pub InMask-or : (a b i : ℕ) → (InMask (bit_or a b) i ↔ (InMask a i ⊎ InMask b i))
InMask-or a b i = (
  (λ h. max_is_one _ _ (bit_at-lt a i) (bit_at-lt b i) (sym (bit_at_or a b i) ∙ h)),
  (λ h. bit_at_or a b i ∙ one_is_max _ _ (bit_at-lt a i) (bit_at-lt b i) h),
)

pub min_is_one : (m n : ℕ) → m < 2 → n < 2 → (min m n ≡ 1 ↔ ((m ≡ 1) × (n ≡ 1)))
min_is_one m n p q = ((λ h. (omega arith, omega arith)), (λ h. omega (arith, h.0, h.1)))

pub InMask-and : (a b i : ℕ) → (InMask (bit_and a b) i ↔ (InMask a i × InMask b i))
InMask-and a b i = (
  (λ h. (min_is_one _ _ (bit_at-lt a i) (bit_at-lt b i)).0 (sym (bit_at_and a b i) ∙ h)),
  (λ h. bit_at_and a b i ∙ (min_is_one _ _ (bit_at-lt a i) (bit_at-lt b i)).1 h),
)

-- what the same bit says of two numbers
pub same_bit : (a b i : ℕ) → bit_at a i ≡ bit_at b i → (InMask a i ↔ InMask b i)
same_bit a b i e = ((λ h. sym e ∙ h), (λ h. e ∙ h))

pub InMask-within : (a i : ℕ) → a < 2 ^ 64 → InMask a i → i < 64
InMask-within a i below h = grind (arith, bit_at_above a 64 i below)

pub set_same : (n k id : ℕ) → k ≡ id → k < 64 → InMask (bit_or n (1 * 2 ^ k % 2 ^ 64)) id
set_same n k id e within = subst (λ x. InMask (bit_or n (1 * 2 ^ k % 2 ^ 64)) x) e (bit_at_set_same w64 n k within)

pub set_other : (n k id : ℕ) → k ≡ id → k < 64 → (i : ℕ) → i ≢ id
    → (InMask (bit_or n (1 * 2 ^ k % 2 ^ 64)) i ↔ InMask n i)
set_other n k id e within i other = same_bit _ n i (bit_at_set_other w64 n k within i (λ h. other (h ∙ e)))

pub clear_same : (n k id : ℕ) → k ≡ id → k < 64 → InMask (bit_and n (2 ^ 64 - 1 - 1 * 2 ^ k % 2 ^ 64)) id → ⊥
clear_same n k id e within h =
    not_both _
    (subst (λ x. bit_at (bit_and n (2 ^ 64 - 1 - 1 * 2 ^ k % 2 ^ 64)) x ≡ 0) e (bit_at_clear_same w64 n k within)) h
  where
    not_both : (m : ℕ) → m ≡ 0 → m ≡ 1 → ⊥
    not_both m zero_is one_is = omega arith

-- below the highest bit another bit stays, and from there on neither number has one
pub clear_other : (n k id : ℕ) → n < 2 ^ 64 → k ≡ id → k < 64 → (i : ℕ) → i ≢ id
    → (InMask (bit_and n (2 ^ 64 - 1 - 1 * 2 ^ k % 2 ^ 64)) i ↔ InMask n i)
clear_other n k id below e within i other =
    by_place (cases_lt i 64)
  where
    by_place : (i < 64) ⊎ (64 ≤ i) → (InMask (bit_and n (2 ^ 64 - 1 - 1 * 2 ^ k % 2 ^ 64)) i ↔ InMask n i)
    by_place (inl low) = same_bit _ n i (bit_at_clear_other w64 n k within i low (λ h. other (h ∙ e)))
    by_place (inr high) =
        same_bit _ n i
        (bit_at_above _ 64 i (omega (arith, and_le_l n (2 ^ 64 - 1 - 1 * 2 ^ k % 2 ^ 64))) high
        ∙ sym (bit_at_above n 64 i below high))
