-- The groups of an IPv6 address in text.
use Rattle.std.proofs.Common.{◌≡◌, ℕ, ◌<◌, ◌≤◌, ◌⊎◌, inl, inr, List, [], ◌∷◌, ◌++◌, length, get_or, refl, ap, sym}
use Rattle.std.proofs.Common.{subst, ◌∙◌, append_assoc, arith}
use Rattle.std.proofs.lemmas.List.{append-nil}
use Rattle.std.specs.Char.{digit_value}
use Rattle.std.specs.Str.Iter.{LacksByte}
use Rattle.std.specs.Str.Parse.{AllDigits, digits_value}
use Rattle.ip_text.specs.Groups.{IsGroup, IsGroups}
use Rattle.ip_text.specs.Sides.{IsEndOrGap, Opens}
use Rattle.ip_text.proofs.Decimals.{digit_within}

no_colon : (c : ℕ) → c ≡ 58 → digit_value c < 16 → ⊥
no_colon c is digit =
    let h : digit_value 58 < 16 = subst (λ (x : ℕ). digit_value x < 16) is digit in
    omega arith

pub group_lacks : (text : List ℕ) (g : ℕ) → IsGroup text g → LacksByte 58 text
group_lacks text g is k less e = no_colon (get_or text k 0) e (digit_within 16 text k is.digits less)

four_digits_below : (text : List ℕ) → length text ≤ 4 → AllDigits 16 text → digits_value 16 text < 65536
four_digits_below [] few all = omega arith
four_digits_below (a ∷ []) few all = omega (arith, all.0)
four_digits_below (a ∷ b ∷ []) few all = omega (arith, all.0, all.1.0)
four_digits_below (a ∷ b ∷ c ∷ []) few all = omega (arith, all.0, all.1.0, all.1.1.0)
four_digits_below (a ∷ b ∷ c ∷ d ∷ []) few all = omega (arith, all.0, all.1.0, all.1.1.0, all.1.1.1.0)
four_digits_below (a ∷ b ∷ c ∷ d ∷ e ∷ more) few all = absurd (omega arith)

pub group_below : (text : List ℕ) (g : ℕ) → IsGroup text g → g < 65536
group_below text g is = omega (arith, four_digits_below text is.few is.digits, is.value)

-- a text that begins with a digit
pub record StartsWithDigit (text : List ℕ) : Type 0 where
  pub first : ℕ
  pub others : List ℕ
  pub digit : digit_value first < 16
  pub parts : text ≡ first ∷ others

group_starts : (text : List ℕ) (g : ℕ) → IsGroup text g → StartsWithDigit text
group_starts [] g is = absurd (omega (arith, is.some))
group_starts (c ∷ cs) g is = record { first = c; others = cs; digit = is.digits.0; parts = refl }

starts-append : (one more : List ℕ) → StartsWithDigit one → StartsWithDigit (one ++ more)
starts-append one more s =
    record { first = s.first; others = s.others ++ more; digit = s.digit; parts = ap (λ t. t ++ more) s.parts }

pub groups_start : (text : List ℕ) (g : ℕ) (gs : List ℕ) → IsGroups text (g ∷ gs) → StartsWithDigit text
groups_start text g [] is = group_starts text g is
groups_start text g (h ∷ gs) is =
    subst StartsWithDigit (sym is.3) (starts-append is.0 (58 ∷ is.1) (group_starts is.0 g is.2))

pub opens_start : (text : List ℕ) (g : ℕ) (gs rest : List ℕ) → Opens text (g ∷ gs) rest → StartsWithDigit text
opens_start text g gs rest opens =
    subst StartsWithDigit (sym opens.parts)
    (starts-append opens.front rest (groups_start opens.front g gs opens.spelled))

pub no_colon_first : (text more : List ℕ) → StartsWithDigit text → text ≡ 58 ∷ more → ⊥
no_colon_first text more s is = no_colon s.first (ap (λ t. get_or t 0 0) (sym s.parts ∙ is)) s.digit

pub end_or_colon : (text : List ℕ) → StartsWithDigit text → IsEndOrGap text → ⊥
end_or_colon [] s ends = absurd (omega (arith, ap length s.parts))
end_or_colon (a ∷ []) s ends = ends
end_or_colon (a ∷ b ∷ cs) s ends = no_colon_first (a ∷ b ∷ cs) (b ∷ cs) s (ap (λ x. x ∷ b ∷ cs) ends.0)

pub gap_is : (rest : List ℕ) → IsEndOrGap rest → (rest ≡ []) ⊎ ((after : List ℕ) × (rest ≡ 58 ∷ 58 ∷ after))
gap_is [] ends = inl refl
gap_is (a ∷ []) ends = absurd ends
gap_is (a ∷ b ∷ cs) ends = inr (cs, ap (λ x. x ∷ b ∷ cs) ends.0 ∙ ap (λ x. 58 ∷ x ∷ cs) ends.1)

-- the three ways in which a text with a group in front goes on
pub data Start (text rest : List ℕ) : List ℕ → Type 0 where
  ended : (g : ℕ) → IsGroup text g → rest ≡ [] → Start text rest (g ∷ [])
  gap : (g : ℕ) (front after : List ℕ) → IsGroup front g → text ≡ front ++ (58 ∷ 58 ∷ after) → rest ≡ 58 ∷ 58 ∷ after
      → Start text rest (g ∷ [])
  goes_on : (g h : ℕ) (gs one others : List ℕ) → IsGroup one g → text ≡ one ++ (58 ∷ others)
      → Opens others (h ∷ gs) rest → Start text rest (g ∷ h ∷ gs)

pub start_of : (text rest groups : List ℕ) → 0 < length groups → Opens text groups rest → Start text rest groups
start_of text rest [] some opens = absurd (omega arith)
start_of text rest (g ∷ []) some opens =
    elim (gap_is rest opens.stops) [
      | inl e ↦ ended g
          (subst (λ (t : List ℕ). IsGroup t g)
          (sym (opens.parts ∙ ap (λ r. opens.front ++ r) e ∙ append-nil opens.front)) opens.spelled) e
      | inr e ↦ gap g opens.front e.0 opens.spelled (opens.parts ∙ ap (λ r. opens.front ++ r) e.1) e.1
    ]
start_of text rest (g ∷ h ∷ gs) some opens =
    let is = opens.spelled in
    goes_on g h gs is.0 (is.1 ++ rest) is.2
    (opens.parts ∙ ap (λ t. t ++ rest) is.3 ∙ append_assoc is.0 (58 ∷ is.1) rest)
    (record { front = is.1; spelled = is.4; parts = refl; stops = opens.stops })
