-- Clearing the last bits of a number, and what equal first bits come to.
use Rattle.std.proofs.Common.{◌≡◌, ℕ, ◌+◌, ◌-◌, ◌*◌, ◌/◌, ◌%◌, ◌^◌, ◌<◌, ◌≤◌, ap, sym, subst, ◌∙◌, arith}
use Rattle.std.proofs.lemmas.Nat.{shl-shr, shr-shr, shr_below}
use Rattle.std.proofs.lemmas.Nat.Bits.{ones_shl, and_high_mask, same_from_bits_below}
use Rattle.std.proofs.lemmas.Bool.Decides.{Decides-eqb, Decides-like}
use Rattle.std.specs.Prelude.{bit_and, ◌==◌, IsTrue, ◌↔◌}
use Rattle.std.specs.Bool.{Decides}
use Rattle.std.specs.Int.{bit_at}
use Rattle.urpf_base.specs.Address.{bit_from_highest, FirstBitsAgree, cleared}

-- what `number & (MAX << k)` computes
pub cleared-mask : (width k number : ℕ) → k ≤ width → number < 2 ^ width
    → bit_and number ((2 ^ width - 1) * 2 ^ k % 2 ^ width) ≡ number / 2 ^ k * 2 ^ k
cleared-mask width k number within small =
    ap (λ m. bit_and number m) (ones_shl width k within) ∙ and_high_mask width k within number small

bit_at-shr : (number k i : ℕ) → bit_at (number / 2 ^ k) i ≡ bit_at number (k + i)
bit_at-shr number k i = ap (λ x. x % 2) (shr-shr number k i)

-- the bit at k + j is the one at len - 1 - j from the highest, where k + len is the width
bit_from_highest-shr : (width len number j : ℕ) → len ≤ width → j < len
    → bit_at (number / 2 ^ (width - len)) j ≡ bit_from_highest width number (len - 1 - j)
bit_from_highest-shr width len number j within below =
    bit_at-shr number (width - len) j ∙ ap (λ i. bit_at number i) (omega arith)

highest_back : (len i : ℕ) → i < len → len - 1 - (len - 1 - i) ≡ i
highest_back len i h = omega arith

front_below : (width len number : ℕ) → len ≤ width → number < 2 ^ width → number / 2 ^ (width - len) < 2 ^ len
front_below width len number within small =
    let e : width ≡ len + (width - len) = omega arith in
    shr_below number len (width - len) (subst (λ (w : ℕ). number < 2 ^ w) e small)

pub cleared-agree : (width len a b : ℕ) → len ≤ width → a < 2 ^ width → b < 2 ^ width → FirstBitsAgree width len a b
    → cleared width len a ≡ cleared width len b
cleared-agree width len a b within small_a small_b agree =
    ap (λ x. x * 2 ^ (width - len))
    (same_from_bits_below len _ _ (front_below width len a within small_a) (front_below width len b within small_b)
    (λ j below. bit_from_highest-shr width len a j within below ∙ agree (len - 1 - j) (omega arith)
    ∙ sym (bit_from_highest-shr width len b j within below)))

pub agree_from_cleared : (width len a b : ℕ) → len ≤ width → cleared width len a ≡ cleared width len b
    → FirstBitsAgree width len a b
agree_from_cleared width len a b within same i below =
    let k : ℕ = width - len in
    let fronts : a / 2 ^ k ≡ b / 2 ^ k = sym (shl-shr (a / 2 ^ k) k) ∙ ap (λ x. x / 2 ^ k) same ∙ shl-shr (b / 2 ^ k) k
    in
    let bit : (n : ℕ) → bit_at (n / 2 ^ k) (len - 1 - i) ≡ bit_from_highest width n i =
    λ n. bit_from_highest-shr width len n (len - 1 - i) within (omega arith)
    ∙ ap (λ j. bit_from_highest width n j) (highest_back len i below) in
    sym (bit a) ∙ ap (λ x. bit_at x (len - 1 - i)) fronts ∙ bit b

pub agree_decided : (width len a b : ℕ) → len ≤ width → a < 2 ^ width → b < 2 ^ width
    → Decides (cleared width len a == cleared width len b) (FirstBitsAgree width len a b)
agree_decided width len a b within small_a small_b =
    Decides-like _ (agree_from_cleared width len a b within) (cleared-agree width len a b within small_a small_b)
    (Decides-eqb _ _)

-- what a test of two cleared numbers tells
pub agree_told : (width len a b x y : ℕ) → len ≤ width → a < 2 ^ width → b < 2 ^ width → x ≡ cleared width len a
    → y ≡ cleared width len b → IsTrue (x == y) ↔ FirstBitsAgree width len a b
agree_told width len a b x y within small_a small_b is_a is_b =
    rw (is_a, is_b) (agree_decided width len a b within small_a small_b)

-- clearing twice is clearing once
pub cleared-cleared : (width len number : ℕ) → cleared width len (cleared width len number) ≡ cleared width len number
cleared-cleared width len number = ap (λ x. x * 2 ^ (width - len)) (shl-shr (number / 2 ^ (width - len)) (width - len))
