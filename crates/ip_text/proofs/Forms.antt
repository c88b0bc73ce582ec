-- The two forms of an IPv6 address in text: eight groups, or fewer and a gap.
use Rattle.std.proofs.Common.{◌≡◌, ℕ, ◌+◌, ◌-◌, ◌*◌, ◌^◌, ◌≤◌, ◌⊎◌, inl, inr, List, [], ◌∷◌, ◌++◌, length, drop}
use Rattle.std.proofs.Common.{replicate, Option, Some, None, refl, ap, sym, subst, ◌∙◌, length-append, arith}
use Rattle.std.specs.Option.{IfSome, SomeIff}
use Rattle.std.specs.Int.Digits.{number_from_digits_after}
use Rattle.std.proofs.lemmas.List.{append-nil, length-replicate}
use Rattle.ip_text.specs.Groups.{IsGroups, IsShortened}
use Rattle.ip_text.specs.Sides.{Opens, IsSide, SideIs}
use Rattle.ip_text.specs.Texts.{IsV6}
use Rattle.ip_text.proofs.Once.{opens_once}
use Rattle.ip_text.proofs.Shifts.{number-with_zeros}

-- eight groups and no gap
pub record Plain (text : List ℕ) (n : ℕ) : Type 0 where
  pub groups : List ℕ
  pub eight : length groups ≡ 8
  pub number : n ≡ number_from_digits_after 65536 0 groups
  pub opens : Opens text groups []

-- fewer groups on both sides of a gap
pub record Short (text : List ℕ) (n : ℕ) : Type 0 where
  pub left : List ℕ
  pub right : List ℕ
  pub after : List ℕ
  pub fewer : length left + length right ≤ 7
  pub number : n ≡ number_from_digits_after 65536 0 left * 2 ^ (16 * (8 - length left))
      + number_from_digits_after 65536 0 right
  pub first : Opens text left (58 ∷ 58 ∷ after)
  pub last : Opens after right []

opens_all : (text groups : List ℕ) → IsGroups text groups → Opens text groups []
opens_all text groups is = record { front = text; spelled = is; parts = sym (append-nil text); stops = tt }

length-with_zeros : (left right : List ℕ) (zeros : ℕ)
    → length (left ++ (replicate zeros 0 ++ right)) ≡ length left + (zeros + length right)
length-with_zeros left right zeros =
    omega (
      arith,
      length-append left (replicate zeros 0 ++ right),
      length-append (replicate zeros 0) right,
      length-replicate {A = ℕ} zeros 0,
    )

short_of : (text groups : List ℕ) (n : ℕ) → length groups ≡ 8 → n ≡ number_from_digits_after 65536 0 groups
    → IsShortened text groups → Short text n
short_of text groups n eight number s =
    let all : length s.left + (s.zeros + length s.right) ≡ 8 = sym (length-with_zeros s.left s.right s.zeros)
    ∙ ap length (sym s.whole) ∙ eight in
    record {
      left = s.left;
      right = s.right;
      after = s.after;
      fewer = omega (arith, all, s.some);
      number =
          number ∙ ap (λ gs. number_from_digits_after 65536 0 gs) s.whole
          ∙ number-with_zeros s.left s.right s.zeros all;
      first = record { front = s.before; spelled = s.first; parts = s.parts; stops = (refl, refl) };
      last = opens_all s.after s.right s.last;
    }

pub forms : (text : List ℕ) (n : ℕ) → IsV6 text n → Plain text n ⊎ Short text n
forms text n is =
    elim is.spelled [
      | inl all ↦ inl
          (record { groups = is.groups; eight = is.eight; number = is.number; opens = opens_all text is.groups all })
      | inr short ↦ inr (short_of text is.groups n is.eight is.number short)
    ]

pub no_gap_at_end : (after : List ℕ) → [] ≡ 58 ∷ 58 ∷ after → ⊥
no_gap_at_end after e = omega (arith, ap length e)

plain_once : (text : List ℕ) (n m : ℕ) → Plain text n → Plain text m → n ≡ m
plain_once text n m f g =
    f.number
    ∙ ap (λ gs. number_from_digits_after 65536 0 gs) (opens_once text [] [] f.groups g.groups f.opens g.opens).0
    ∙ sym g.number

plain_or_short : (text : List ℕ) (n m : ℕ) → Plain text n → Short text m → ⊥
plain_or_short text n m f g =
    no_gap_at_end g.after (opens_once text [] (58 ∷ 58 ∷ g.after) f.groups g.left f.opens g.first).1

short_once : (text : List ℕ) (n m : ℕ) → Short text n → Short text m → n ≡ m
short_once text n m f g =
    let first = opens_once text (58 ∷ 58 ∷ f.after) (58 ∷ 58 ∷ g.after) f.left g.left f.first g.first in
    let last = opens_once g.after [] [] f.right g.right
    (subst (λ (t : List ℕ). Opens t f.right []) (ap (drop 2) first.1) f.last) g.last in
    f.number
    ∙ ap (λ gs. number_from_digits_after 65536 0 gs * 2 ^ (16 * (8 - length gs))
    + number_from_digits_after 65536 0 f.right) first.0
    ∙ ap (λ gs. number_from_digits_after 65536 0 g.left * 2 ^ (16 * (8 - length g.left))
    + number_from_digits_after 65536 0 gs) last.0
    ∙ sym g.number

-- a text is one IPv6 address at most
pub one_v6 : (text : List ℕ) (n m : ℕ) → IsV6 text n → IsV6 text m → n ≡ m
one_v6 text n m is other =
    elim (forms text n is) [
      | inl f ↦
          elim (forms text m other) [
            | inl g ↦ plain_once text n m f g
            | inr g ↦ absurd (plain_or_short text n m f g)
          ]
      | inr f ↦
          elim (forms text m other) [
            | inl g ↦ absurd (plain_or_short text m n g f)
            | inr g ↦ short_once text n m f g
          ]
    ]

is_some : (r : Option ℕ) (P : Type 0) (v : ℕ) → SomeIff r P v → P → r ≡ Some v
is_some None P v read p = absurd (read p)
is_some (Some x) P v read p = ap Some read.1

-- nothing opens the text
pub never_read : (text : List ℕ) → ((groups rest : List ℕ) → length groups ≤ 8 → Opens text groups rest → ⊥) → (n : ℕ)
    → IsV6 text n → None ≡ Some n
never_read text never n is =
    elim (forms text n is) [
      | inl f ↦ absurd (never f.groups [] (omega (arith, f.eight)) f.opens)
      | inr f ↦ absurd (never f.left (58 ∷ 58 ∷ f.after) (omega (arith, f.fewer)) f.first)
    ]

module _ (text : List ℕ) (count value : ℕ) (left : List ℕ)
    (only : (groups rest : List ℕ) → length groups ≤ 8 → Opens text groups rest
    → SideIs 0 0 groups count value rest left) where
  -- no gap follows
  pub whole_only : (r : Option ℕ) → ((after : List ℕ) → left ≡ 58 ∷ 58 ∷ after → ⊥)
      → SomeIff r ((count ≡ 8) × (left ≡ [])) value → (n : ℕ) → IsV6 text n → r ≡ Some n
  whole_only r no_gap read n is =
      elim (forms text n is) [
        | inl f ↦
            let side = only f.groups [] (omega (arith, f.eight)) f.opens in
            is_some r _ value read (omega (arith, side.0, f.eight), side.2) ∙ ap Some (side.1 ∙ sym f.number)
        | inr f ↦ absurd (no_gap f.after (only f.left (58 ∷ 58 ∷ f.after) (omega (arith, f.fewer)) f.first).2)
      ]

  module _ (after : List ℕ) (gap : left ≡ 58 ∷ 58 ∷ after) where
    plain_never : (n : ℕ) → Plain text n → ⊥
    plain_never n f =
        let e : 58 ∷ 58 ∷ after ≡ [] = sym gap ∙ (only f.groups [] (omega (arith, f.eight)) f.opens).2 in
        omega (arith, ap length e)

    right_opens : (n : ℕ) (f : Short text n) → Opens after f.right []
    right_opens n f =
        subst (λ (t : List ℕ). Opens t f.right [])
        (ap (drop 2) (sym (only f.left (58 ∷ 58 ∷ f.after) (omega (arith, f.fewer)) f.first).2 ∙ gap)) f.last

    pub right_never : ((groups rest : List ℕ) → length groups ≤ 8 → Opens after groups rest → ⊥) → (n : ℕ) → IsV6 text n
        → None ≡ Some n
    right_never never n is =
        elim (forms text n is) [
          | inl f ↦ absurd (plain_never n f)
          | inr f ↦ absurd (never f.right [] (omega (arith, f.fewer)) (right_opens n f))
        ]

    pub joined_only : (others low : ℕ) (right : List ℕ) (r : Option ℕ)
        → ((groups rest : List ℕ) → length groups ≤ 8 → Opens after groups rest
        → SideIs 0 0 groups others low rest right)
        → SomeIff r ((count + others ≤ 7) × (right ≡ [])) (value * 2 ^ (16 * (8 - count)) + low)
        → (n : ℕ) → IsV6 text n → r ≡ Some n
    joined_only others low right r only_right read n is =
        elim (forms text n is) [
          | inl f ↦ absurd (plain_never n f)
          | inr f ↦
              let high = only f.left (58 ∷ 58 ∷ f.after) (omega (arith, f.fewer)) f.first in
              let last = only_right f.right [] (omega (arith, f.fewer)) (right_opens n f) in
              let counted : count ≡ length f.left = omega (arith, high.0) in
              is_some r _ _ read (omega (arith, high.0, last.0, f.fewer), last.2)
              ∙ ap Some
              (ap (λ x. value * 2 ^ (16 * (8 - x)) + low) counted
              ∙ ap (λ x. x * 2 ^ (16 * (8 - length f.left)) + low) high.1
              ∙ ap (λ x. number_from_digits_after 65536 0 f.left * 2 ^ (16 * (8 - length f.left)) + x)
              last.1 ∙ sym f.number)
        ]

pub all_of : (text groups rest : List ℕ) → Opens text groups rest → rest ≡ [] → IsGroups text groups
all_of text groups rest opens none =
    subst (λ (t : List ℕ). IsGroups t groups)
    (sym (opens.parts ∙ ap (λ r. opens.front ++ r) none ∙ append-nil opens.front)) opens.spelled

-- both sides were read
pub joined_found : (text after left right : List ℕ) (count value others low : ℕ) (r : Option ℕ)
    → IsSide 0 0 text count value left → left ≡ 58 ∷ 58 ∷ after → IsSide 0 0 after others low right
    → SomeIff r ((count + others ≤ 7) × (right ≡ [])) (value * 2 ^ (16 * (8 - count)) + low) → IfSome r (IsV6 text)
joined_found text after left right count value others low None high gap last read = tt
joined_found text after left right count value others low (Some n) high gap last read =
    let zeros : ℕ = 8 - count - others in
    let counted : count ≡ length high.groups = omega (arith, high.counted) in
    let all : length high.groups + (zeros + length last.groups) ≡ 8 =
    omega (arith, high.counted, last.counted, read.0.0) in
    record {
      groups = high.groups ++ (replicate zeros 0 ++ last.groups);
      eight = length-with_zeros high.groups last.groups zeros ∙ all;
      number =
          read.1 ∙ ap (λ x. value * 2 ^ (16 * (8 - x)) + low) counted
          ∙ ap (λ x. x * 2 ^ (16 * (8 - length high.groups)) + low) high.number
          ∙ ap (λ x. number_from_digits_after 65536 0 high.groups * 2 ^ (16 * (8 - length high.groups)) + x) last.number
          ∙ sym (number-with_zeros high.groups last.groups zeros all);
      spelled = inr (record {
        before = high.opens.front;
        after = after;
        left = high.groups;
        right = last.groups;
        zeros = zeros;
        some = omega (arith, read.0.0);
        parts = high.opens.parts ∙ ap (λ t. high.opens.front ++ t) gap;
        first = high.opens.spelled;
        last = all_of after last.groups right last.opens read.0.1;
        whole = refl;
      });
    }
