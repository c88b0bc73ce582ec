-- No text spells an address of each family: the first octet that is no digit is a dot in one and a colon in the other.
use Rattle.std.proofs.Common.{◌≡◌, ℕ, ◌+◌, ◌/◌, ◌%◌, ◌^◌, ◌<◌, inl, inr, List, [], ◌∷◌, ◌++◌, length, get_or, drop}
use Rattle.std.proofs.Common.{refl, ap, sym, subst, ◌∙◌, append-nil, arith}
use Rattle.std.specs.Prelude.{decimal}
use Rattle.std.specs.Char.{digit_value}
use Rattle.std.specs.Str.Parse.{AllDigits}
use Rattle.std.proofs.lemmas.Fmt.{digits_decimal}
use Rattle.ip_text.specs.Groups.{IsGroups}
use Rattle.ip_text.specs.Texts.{IsV6, dotted}
use Rattle.ip_text.proofs.Decimals.{own}
use Rattle.ip_text.proofs.Spelling.{Start, ended, gap, goes_on, start_of}

hex_digits : (ds : List ℕ) → AllDigits 10 ds → AllDigits 16 ds
hex_digits [] all = tt
hex_digits (d ∷ ds) all = (omega (arith, all.0), hex_digits ds all.1)

-- digits, and then the mark
record Marked (mark : ℕ) (text : List ℕ) : Type 0 where
  front : List ℕ
  others : List ℕ
  digits : AllDigits 16 front
  parts : text ≡ front ++ (mark ∷ others)

head_same : (x y : ℕ) (r s : List ℕ) → x ∷ r ≡ y ∷ s → x ≡ y
head_same x y r s e = ap (λ t. get_or t 0 0) e

one_mark : (x y : ℕ) (xs ys r s : List ℕ) → AllDigits 16 xs → AllDigits 16 ys → (digit_value x < 16 → ⊥)
    → (digit_value y < 16 → ⊥) → xs ++ (x ∷ r) ≡ ys ++ (y ∷ s) → x ≡ y
one_mark x y [] [] r s all_x all_y off_x off_y e = head_same x y r s e
one_mark x y [] (b ∷ ys) r s all_x all_y off_x off_y e =
    absurd (off_x (subst (λ (v : ℕ). digit_value v < 16) (sym (head_same x b r (ys ++ (y ∷ s)) e)) all_y.0))
one_mark x y (a ∷ xs) [] r s all_x all_y off_x off_y e =
    absurd (off_y (subst (λ (v : ℕ). digit_value v < 16) (head_same a y (xs ++ (x ∷ r)) s e) all_x.0))
one_mark x y (a ∷ xs) (b ∷ ys) r s all_x all_y off_x off_y e =
    one_mark x y xs ys r s all_x.1 all_y.1 off_x off_y (ap (drop 1) e)

dotted_marked : (text : List ℕ) (n : ℕ) → text ≡ dotted n → Marked 46 text
dotted_marked text n is =
    record {
      front = decimal (n / 2 ^ 24 % 256);
      others = _;
      digits = hex_digits _ (digits_decimal own (n / 2 ^ 24 % 256) (omega arith));
      parts = is;
    }

start_marked : (text rest groups : List ℕ) → (length groups ≡ 1 → rest ≡ [] → ⊥) → Start text rest groups
    → Marked 58 text
start_marked text rest groups goes (ended g is e) = absurd (goes refl e)
start_marked text rest groups goes (gap g front after is parts e) =
    record { front = front; others = 58 ∷ after; digits = is.digits; parts = parts }
start_marked text rest groups goes (goes_on g h gs one others is parts opens) =
    record { front = one; others = others; digits = is.digits; parts = parts }

all_marked : (text groups : List ℕ) → length groups ≡ 8 → IsGroups text groups → Marked 58 text
all_marked text groups eight is =
    start_marked text [] groups (λ one _. omega (arith, eight, one))
    (start_of text [] groups (omega (arith, eight))
    (record { front = text; spelled = is; parts = sym (append-nil text); stops = tt }))

gap_marked : (text after before left : List ℕ) → IsGroups before left → text ≡ before ++ (58 ∷ 58 ∷ after)
    → Marked 58 text
gap_marked text after before [] is parts =
    record { front = []; others = 58 ∷ after; digits = tt; parts = parts ∙ ap (λ b. b ++ (58 ∷ 58 ∷ after)) is }
gap_marked text after before (g ∷ gs) is parts =
    start_marked text (58 ∷ 58 ∷ after) (g ∷ gs) (λ _ none. omega (arith, ap length none))
    (start_of text (58 ∷ 58 ∷ after) (g ∷ gs) (omega arith)
    (record { front = before; spelled = is; parts = parts; stops = (refl, refl) }))

v6_marked : (text : List ℕ) (n : ℕ) → IsV6 text n → Marked 58 text
v6_marked text n is =
    elim is.spelled [
      | inl all ↦ all_marked text is.groups is.eight all
      | inr s ↦ gap_marked text s.after s.before s.left s.first s.parts
    ]

differ : 46 ≡ (46 + 12) → ⊥
differ e = omega (arith, e)

pub one_family : (text : List ℕ) (n m : ℕ) → text ≡ dotted n → IsV6 text m → ⊥
one_family text n m four six =
    let a = dotted_marked text n four in
    let b = v6_marked text m six in
    differ (one_mark 46 58 a.front b.front a.others b.others a.digits b.digits (λ h. omega arith) (λ h. omega arith)
    (sym a.parts ∙ b.parts))
