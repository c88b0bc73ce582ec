-- Numbers in text, and the digits that write them.
use Rattle.std.proofs.Common.{◌≡◌, ℕ, zero, suc, ◌+◌, ◌*◌, ◌/◌, ◌%◌, ◌^◌, ◌<◌, ◌≤◌, List, [], ◌∷◌, length, get_or, take}
use Rattle.std.proofs.Common.{Option, Some, None, ap, sym, subst, ◌∙◌, arith, length-append}
use Rattle.std.specs.Prelude.{decimal}
use Rattle.std.specs.Char.{digit_value}
use Rattle.std.specs.Option.{IfSome, SomeIff}
use Rattle.ip_text.specs.Numbers.{StartsWell, WritesUpTo}
use Rattle.std.specs.Str.Parse.{AllDigits, digits_value}
use Rattle.std.proofs.lemmas.Fmt.{decimal_digit, decimal_step, decimal_nonempty, first_decimal, digits_decimal}
use Rattle.std.proofs.lemmas.Fmt.{digits_value-decimal, decimal-digits_value}
use Rattle.std.proofs.lemmas.Int.Digits.{digits_more, digits_value_more}
use Rattle.std.proofs.lemmas.Str.Parse.{IsNumeralModel, numerals_by_value, tells_digits, not_in_digits}
use Rattle.std.proofs.lemmas.Str.Parse.{digits_value-take-le}
use Rattle.std.specs.Int.{IsInRange}
use Rattle.std.specs.Str.Iter.{LacksByte}

pub own : IsNumeralModel (AllDigits 10) (digits_value 10)
own = numerals_by_value (AllDigits 10) tells_digits

-- what was taken is digits, and their value is within the most
pub record IsRead (radix most : ℕ) (taken : List ℕ) (value : ℕ) : Type 0 where
  pub digits : AllDigits radix taken
  pub is : value ≡ digits_value radix taken
  pub within : value ≤ most

pub digit_within : (radix : ℕ) (text : List ℕ) (i : ℕ) → AllDigits radix text → i < length text
    → digit_value (get_or text i 0) < radix
digit_within radix [] i all less = absurd (omega arith)
digit_within radix (c ∷ cs) zero all less = all.0
digit_within radix (c ∷ cs) (suc i) all less = digit_within radix cs i all.1 (omega arith)

-- a text that begins with a zero and goes on is no number
pub starts_decimal : (n : ℕ) → n < 2 ^ 64 → StartsWell (decimal n)
starts_decimal zero small = (decimal_nonempty 0 small, λ first. ap length (decimal_digit 0 (omega arith)))
starts_decimal (suc n) small =
    (decimal_nonempty (suc n) small, λ first. absurd (omega (arith, first_decimal (suc n) (omega arith) small)))

pub number_found : (text : List ℕ) (most : ℕ) (r : Option ℕ)
    → SomeIff r (WritesUpTo 10 most text) (digits_value 10 text) → StartsWell text → most < 2 ^ 32
    → IfSome r (λ n. (n ≤ most) × (text ≡ decimal n))
number_found text most None read starts small = tt
number_found text most (Some n) read starts small = (
  omega (arith, read.0.1, read.1),
  sym (decimal-digits_value own text read.0.0 starts.0 starts.1 (omega (arith, read.0.1)))
      ∙ ap decimal (sym read.1),
)

pub number_only : (text : List ℕ) (most : ℕ) (r : Option ℕ) → SomeIff r (WritesUpTo 10 most text) (digits_value 10 text)
    → most < 2 ^ 32 → (n : ℕ) → n ≤ most → text ≡ decimal n → r ≡ Some n
number_only text most None read small n within is =
    let value : digits_value 10 text ≡ n = ap (digits_value 10) is ∙ digits_value-decimal own n (omega arith) in
    absurd (read (subst (AllDigits 10) (sym is) (digits_decimal own n (omega arith)), omega arith))
number_only text most (Some x) read small n within is =
    ap Some (read.1 ∙ ap (digits_value 10) is ∙ digits_value-decimal own n (omega arith))

next_is : (radix i : ℕ) (text : List ℕ) (value digit : ℕ) → i < length text → value ≡ digits_value radix (take i text)
    → digit ≡ digit_value (get_or text i 0) → value * radix + digit ≡ digits_value radix (take (i + 1) text)
next_is radix i text value digit less value_is digit_is =
    ap (λ v. v * radix + digit) value_is ∙ ap (λ d. digits_value radix (take i text) * radix + d) digit_is
    ∙ sym (digits_value_more radix text i less)

-- the value grows with each digit, so one past the most stays past it
pub too_large : (radix most i : ℕ) (text : List ℕ) (value digit : ℕ) → 2 ≤ radix → i < length text
    → value ≡ digits_value radix (take i text) → digit ≡ digit_value (get_or text i 0) → most < value * radix + digit
    → digits_value radix text ≤ most → ⊥
too_large radix most i text value digit low less value_is digit_is more within =
    let next = next_is radix i text value digit less value_is digit_is in
    let part : digits_value radix (take (i + 1) text) ≤ digits_value radix text =
    digits_value-take-le radix text (i + 1) (omega arith) in
    omega arith

pub read_more : (radix most i : ℕ) (text : List ℕ) (value digit : ℕ) → IsRead radix most (take i text) value
    → i < length text → digit_value (get_or text i 0) < radix → digit ≡ digit_value (get_or text i 0)
    → value * radix + digit ≤ most → IsRead radix most (take (i + 1) text) (value * radix + digit)
read_more radix most i text value digit read less is_digit digit_is within = record {
  digits = digits_more radix text i less read.digits is_digit;
  is = next_is radix i text value digit less read.is digit_is;
  within = within;
}

pub decimal_lacks : (n mark : ℕ) → n < 2 ^ 64 → ¬ (IsInRange 48 57 mark) → LacksByte mark (decimal n)
decimal_lacks n mark small off = not_in_digits own (decimal n) mark (digits_decimal own n small) off

pub length-decimal_step : (n : ℕ) → 10 ≤ n → n < 2 ^ 64 → length (decimal n) ≡ length (decimal (n / 10)) + 1
length-decimal_step n ten small =
    ap length (decimal_step n ten small) ∙ length-append (decimal (n / 10)) ((48 + n % 10) ∷ [])
