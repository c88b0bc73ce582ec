-- A text is parted in one way: at its first mark, at the dots of an IPv4 address and at the colons of groups.
use Rattle.std.proofs.Common.{◌≡◌, ℕ, ◌/◌, ◌%◌, ◌^◌, ◌<◌, List, [], ◌∷◌, ◌++◌, length, take, drop, refl, ap, sym}
use Rattle.std.proofs.Common.{subst, ◌∙◌, arith, unwrap_or}
use Rattle.std.specs.Prelude.{◌==◌, decimal, position}
use Rattle.std.specs.Str.Iter.{LacksByte}
use Rattle.std.proofs.Math.Seq.{drop-append_seam, take-append_seam}
use Rattle.std.proofs.lemmas.Fmt.{decimal_injective}
use Rattle.ip_text.specs.Groups.{IsGroup}
use Rattle.ip_text.specs.Sides.{IsEndOrGap, Opens}
use Rattle.ip_text.specs.Texts.{dotted}
use Rattle.ip_text.proofs.Decimals.{decimal_lacks}
use Rattle.ip_text.proofs.Marks.{position_marked}
use Rattle.ip_text.proofs.Sides.{lacks_not}
use Rattle.ip_text.proofs.Spelling.{Start, ended, gap, goes_on, start_of, group_lacks, opens_start, no_colon_first}
use Rattle.ip_text.proofs.Spelling.{end_or_colon}

-- what stands before the first mark, and what stands behind it
pub cut_once : (mark : ℕ) (front other rest left : List ℕ) → LacksByte mark front → LacksByte mark other
    → front ++ (mark ∷ rest) ≡ other ++ (mark ∷ left) → (front ≡ other) × (rest ≡ left)
cut_once mark front other rest left lacks lacks_too e =
    let place : length front ≡ length other =
    ap (λ o. unwrap_or o 0)
    (sym (position_marked mark front rest lacks) ∙ ap (position (λ b. b == mark)) e
    ∙ position_marked mark other left lacks_too) in (
      sym (take-append_seam front (mark ∷ rest)) ∙ ap (take (length front)) e
          ∙ ap (λ i. take i (other ++ (mark ∷ left))) place ∙ take-append_seam other (mark ∷ left),
      ap (drop 1)
          (sym (drop-append_seam front (mark ∷ rest)) ∙ ap (drop (length front)) e
          ∙ ap (λ i. drop i (other ++ (mark ∷ left))) place ∙ drop-append_seam other (mark ∷ left)),
    )

octet_lacks_dot : (a : ℕ) → a < 256 → LacksByte 46 (decimal a)
octet_lacks_dot a small = decimal_lacks a 46 (omega arith) (λ within. omega arith)

-- an octet, a dot, and what stands behind it
octet_once : (a b : ℕ) (rest left : List ℕ) → a < 256 → b < 256
    → decimal a ++ (46 ∷ rest) ≡ decimal b ++ (46 ∷ left) → (a ≡ b) × (rest ≡ left)
octet_once a b rest left small small_too e =
    let same = cut_once 46 (decimal a) (decimal b) rest left (octet_lacks_dot a small)
    (octet_lacks_dot b small_too) e in
    (decimal_injective a b (omega arith) (omega arith) same.0, same.1)

octets_once : (n m : ℕ) → n < 2 ^ 32 → m < 2 ^ 32 → n / 2 ^ 24 % 256 ≡ m / 2 ^ 24 % 256
    → n / 2 ^ 16 % 256 ≡ m / 2 ^ 16 % 256
    → n / 2 ^ 8 % 256 ≡ m / 2 ^ 8 % 256 → n % 256 ≡ m % 256 → n ≡ m
octets_once n m small small_too a b c d = omega arith

-- a text is dotted of one number
pub dotted_once : (n m : ℕ) → n < 2 ^ 32 → m < 2 ^ 32 → dotted n ≡ dotted m → n ≡ m
dotted_once n m small small_too e =
    let first = octet_once (n / 2 ^ 24 % 256) (m / 2 ^ 24 % 256) _ _ (omega arith) (omega arith) e in
    let second = octet_once (n / 2 ^ 16 % 256) (m / 2 ^ 16 % 256) _ _ (omega arith) (omega arith) first.1 in
    let third = octet_once (n / 2 ^ 8 % 256) (m / 2 ^ 8 % 256) _ _ (omega arith) (omega arith) second.1 in
    let last : n % 256 ≡ m % 256 =
    decimal_injective (n % 256) (m % 256) (omega arith) (omega arith) third.1 in
    octets_once n m small small_too first.0 second.0 third.0 last

group_once : (text other : List ℕ) (g h : ℕ) → text ≡ other → IsGroup text g → IsGroup other h → g ≡ h
group_once text other g h same is is_too =
    sym is.value ∙ (subst (λ (t : List ℕ). IsGroup t h) (sym same) is_too).value

module _ (text rest left : List ℕ) where
  start_once : (gs hs : List ℕ)
      → ((others more : List ℕ) → 0 < length (drop 1 gs) → 0 < length more → Opens others (drop 1 gs) rest
      → Opens others more left → (drop 1 gs ≡ more) × (rest ≡ left))
      → Start text rest gs → Start text left hs → (gs ≡ hs) × (rest ≡ left)
  start_once gs hs go (ended g is e) (ended h is_too e_too) =
      (ap (λ x. x ∷ []) (group_once text text g h refl is is_too), e ∙ sym e_too)
  start_once gs hs go (ended g is e) (gap h front after is_too parts e_too) =
      absurd (lacks_not text front (58 ∷ after) (group_lacks text g is) parts)
  start_once gs hs go (ended g is e) (goes_on h i more one others is_too parts opens) =
      absurd (lacks_not text one others (group_lacks text g is) parts)
  start_once gs hs go (gap g front after is parts e) (ended h is_too e_too) =
      absurd (lacks_not text front (58 ∷ after) (group_lacks text h is_too) parts)
  start_once gs hs go (gap g front after is parts e) (gap h other behind is_too parts_too e_too) =
      let same = cut_once 58 front other (58 ∷ after) (58 ∷ behind) (group_lacks front g is)
      (group_lacks other h is_too) (sym parts ∙ parts_too) in (
        ap (λ x. x ∷ []) (group_once front other g h same.0 is is_too),
        e ∙ ap (λ t. 58 ∷ t) same.1 ∙ sym e_too,
      )
  start_once gs hs go (gap g front after is parts e) (goes_on h i more one others is_too parts_too opens) =
      let same = cut_once 58 front one (58 ∷ after) others (group_lacks front g is) (group_lacks one h is_too)
      (sym parts ∙ parts_too) in
      absurd (no_colon_first others after (opens_start others i more left opens) (sym same.1))
  start_once gs hs go (goes_on g i more one others is parts opens) (ended h is_too e_too) =
      absurd (lacks_not text one others (group_lacks text h is_too) parts)
  start_once gs hs go (goes_on g i more one others is parts opens) (gap h front after is_too parts_too e_too) =
      let same = cut_once 58 front one (58 ∷ after) others (group_lacks front h is_too) (group_lacks one g is)
      (sym parts_too ∙ parts) in
      absurd (no_colon_first others after (opens_start others i more rest opens) (sym same.1))
  start_once gs hs go (goes_on g i more one others is parts opens) (goes_on h j less two behind is_too parts_too
      opens_too) =
      let same = cut_once 58 one two others behind (group_lacks one g is) (group_lacks two h is_too)
      (sym parts ∙ parts_too) in
      let next = go others (j ∷ less) (omega arith) (omega arith) opens
      (subst (λ (t : List ℕ). Opens t (j ∷ less) left) (sym same.1) opens_too) in
      (ap (λ x. x ∷ i ∷ more) (group_once one two g h same.0 is is_too) ∙ ap (λ t. h ∷ t) next.0, next.1)

some_once : (text rest left gs hs : List ℕ) → 0 < length gs → 0 < length hs → Opens text gs rest → Opens text hs left
    → (gs ≡ hs) × (rest ≡ left)
some_once text rest left [] hs some some_too opens opens_too = absurd (omega arith)
some_once text rest left (g ∷ gs) hs some some_too opens opens_too =
    start_once text rest left (g ∷ gs) hs (λ others more. some_once others rest left gs more)
    (start_of text rest (g ∷ gs) some opens) (start_of text left hs some_too opens_too)

-- no groups open the text, so the rest is all of it
all_left : (text rest : List ℕ) → Opens text [] rest → text ≡ rest
all_left text rest opens = opens.parts ∙ ap (λ f. f ++ rest) opens.spelled

pub ends_here : (text rest : List ℕ) → Opens text [] rest → IsEndOrGap text
ends_here text rest opens = subst IsEndOrGap (sym (all_left text rest opens)) opens.stops

-- groups up to the end or a gap
pub opens_once : (text rest left gs hs : List ℕ) → Opens text gs rest → Opens text hs left → (gs ≡ hs) × (rest ≡ left)
opens_once text rest left [] [] opens opens_too =
    (refl, sym (all_left text rest opens) ∙ all_left text left opens_too)
opens_once text rest left [] (h ∷ hs) opens opens_too =
    absurd (end_or_colon text (opens_start text h hs left opens_too) (ends_here text rest opens))
opens_once text rest left (g ∷ gs) [] opens opens_too =
    absurd (end_or_colon text (opens_start text g gs rest opens) (ends_here text left opens_too))
opens_once text rest left (g ∷ gs) (h ∷ hs) opens opens_too =
    some_once text rest left (g ∷ gs) (h ∷ hs) (omega arith) (omega arith) opens opens_too
