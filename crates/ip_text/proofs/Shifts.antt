-- Numbers of so many groups of 16 bits.
use Rattle.std.proofs.Common.{◌≡◌, ℕ, zero, suc, ◌+◌, ◌-◌, ◌*◌, ◌^◌, ◌<◌, ◌≤◌, List, [], ◌∷◌, ◌++◌, length, replicate}
use Rattle.std.proofs.Common.{refl, ap, sym, ◌∙◌, add-one, arith}
use Rattle.std.specs.Int.Digits.{number_from_digits_after}
use Rattle.std.proofs.lemmas.Int.Digits.{number_after_append}
use Rattle.std.proofs.lemmas.List.{length-replicate}
use Rattle.std.proofs.Math.Nat.{mul_assoc, mul-le-mul_right}
use Rattle.std.proofs.lemmas.Nat.{pow-add}
use Rattle.std.proofs.Math.Pow.{pow_mono}

one_more : (count : ℕ) → 2 ^ (16 * (count + 1)) ≡ 2 ^ (16 * count) * 65536
one_more count =
    let e : 16 * (count + 1) ≡ 16 * count + 16 = omega arith in
    ap (λ k. 2 ^ k) e ∙ pow-add 2 (16 * count) 16

-- a number with one more group behind it
pub group_fits : (count value group : ℕ) → value < 2 ^ (16 * count) → group < 65536
    → value * 65536 + group < 2 ^ (16 * (count + 1))
group_fits count value group small few = omega (arith, one_more count)

-- eight groups at most
pub fits_128 : (count n : ℕ) → count ≤ 8 → n < 2 ^ (16 * count) → n < 2 ^ 128
fits_128 count n few small =
    let most : 2 ^ (16 * count) ≤ 2 ^ 128 = pow_mono {i = 16 * count} {j = 128} (omega arith) in
    omega arith

-- the number of groups behind others is theirs, moved up, and its own
pub number_after : (n : ℕ) (groups : List ℕ)
    → number_from_digits_after 65536 n groups ≡ n * 2 ^ (16 * length groups) + number_from_digits_after 65536 0 groups
number_after n [] = omega arith
number_after n (g ∷ gs) =
    let k : ℕ = 2 ^ (16 * length gs) in
    let high : number_from_digits_after 65536 (n * 65536 + g) gs
    ≡ (n * 65536 + g) * k + number_from_digits_after 65536 0 gs = number_after (n * 65536 + g) gs in
    let low : number_from_digits_after 65536 (0 * 65536 + g) gs
    ≡ (0 * 65536 + g) * k + number_from_digits_after 65536 0 gs = number_after (0 * 65536 + g) gs in
    let up : n * 2 ^ (16 * length (g ∷ gs)) ≡ n * (k * 65536) =
    ap (λ x. n * x) (ap (λ i. 2 ^ (16 * i)) (sym (add-one (length gs))) ∙ one_more (length gs)) in
    omega (arith, high, low, up)

zeros_after : (k : ℕ) → number_from_digits_after 65536 0 (replicate k 0) ≡ 0
zeros_after zero = refl
zeros_after (suc k) = zeros_after k

-- the number of both sides with zeros between them
pub number-with_zeros : (left right : List ℕ) (zeros : ℕ) → length left + (zeros + length right) ≡ 8
    → number_from_digits_after 65536 0 (left ++ (replicate zeros 0 ++ right)) ≡ number_from_digits_after 65536 0 left
    * 2 ^ (16 * (8 - length left)) + number_from_digits_after 65536 0 right
number-with_zeros left right zeros eight =
    let high : ℕ = number_from_digits_after 65536 0 left in
    let middle : number_from_digits_after 65536 high (replicate zeros 0) ≡ high * 2 ^ (16 * zeros) =
    number_after high (replicate zeros 0)
    ∙ omega (arith, zeros_after zeros, ap (λ i. high * 2 ^ (16 * i)) (length-replicate {A = ℕ} zeros 0)) in
    let powers : 2 ^ (16 * zeros) * 2 ^ (16 * length right) ≡ 2 ^ (16 * (8 - length left)) =
    let e : 16 * zeros + 16 * length right ≡ 16 * (8 - length left) = omega arith in
    sym (pow-add 2 (16 * zeros) (16 * length right)) ∙ ap (λ i. 2 ^ i) e in
    number_after_append 65536 0 left (replicate zeros 0 ++ right)
    ∙ number_after_append 65536 high (replicate zeros 0) right
    ∙ ap (λ n. number_from_digits_after 65536 n right) middle
    ∙ number_after (high * 2 ^ (16 * zeros)) right
    ∙ ap (λ n. n + number_from_digits_after 65536 0 right)
    (mul_assoc high (2 ^ (16 * zeros)) (2 ^ (16 * length right)) ∙ ap (λ x. high * x) powers)

-- both sides fit together
pub joined_fits : (count others high low : ℕ) → count + others ≤ 8 → high < 2 ^ (16 * count) → low < 2 ^ (16 * others)
    → high * 2 ^ (16 * (8 - count)) + low < 2 ^ 128
joined_fits count others high low few small_high small_low =
    let k : ℕ = 2 ^ (16 * (8 - count)) in
    let below : low < k = let up : 2 ^ (16 * others)
    ≤ k = pow_mono {i = 16 * others} {j = 16 * (8 - count)} (omega arith) in omega arith in
    let whole : 2 ^ (16 * count) * k ≡ 2 ^ 128 =
    let e : 16 * count + 16 * (8 - count) ≡ 128 = omega arith in
    sym (pow-add 2 (16 * count) (16 * (8 - count))) ∙ ap (λ i. 2 ^ i) e in
    let most : (high + 1) * k ≤ 2 ^ (16 * count) * k = mul-le-mul_right k (omega arith) in
    omega (arith, below, whole, most)
