-- Cutting a text at its first mark.
use Rattle.std.proofs.Common.{◌≡◌, ℕ, suc, ◌+◌, ◌-◌, ◌<◌, List, ◌∷◌, ◌++◌, length, get_or, take, drop, Some, None, ap}
use Rattle.std.proofs.Common.{sym, ◌∙◌, arith, eq-eqb, add-one, drop-cons, length-append, unwrap_or}
use Rattle.std.specs.Prelude.{◌==◌, position}
use Rattle.std.specs.List.{position_or_len}
use Rattle.std.specs.Str.Iter.{LacksByte}
use Rattle.std.proofs.lemmas.Bool.{ne_eqb, eqb-true}
use Rattle.std.proofs.lemmas.Bool.Decides.{nat_tests}
use Rattle.std.proofs.lemmas.List.{take-append-drop}
use Rattle.std.proofs.lemmas.List.Sums.{position_or_len_is}
use Rattle.std.proofs.lemmas.List.Quantifiers.{position-Some}
use Rattle.std.proofs.lemmas.Slice.{between_to_end}
use Rattle.std.proofs.Math.ListN.{get_or-append}
use Rattle.std.proofs.Math.Seq.{get_or-append_seam, take-append_seam, drop-append-add}

-- the first mark stands behind what lacks it
pub position_marked : (mark : ℕ) (front rest : List ℕ) → LacksByte mark front
    → position (λ b. b == mark) (front ++ mark ∷ rest) ≡ Some (length front)
position_marked mark front rest lacks =
    let place : position_or_len (λ b. b == mark) (front ++ mark ∷ rest) ≡ length front =
    position_or_len_is (λ b. b == mark) (front ++ mark ∷ rest) (length front) 0
    (omega (arith, length-append front (mark ∷ rest)))
    (λ k less. ne_eqb _ _ (λ e. lacks k less (sym (get_or-append front (mark ∷ rest) 0 k less) ∙ e)))
    (λ _. eq-eqb _ _ (get_or-append_seam front mark rest 0)) in
    let inside : length front < length (front ++ mark ∷ rest) = omega (arith, length-append front (mark ∷ rest)) in
    grind (arith, nat_tests, place, inside)

pub rest_whole : (text : List ℕ) (i : ℕ) → take (length text - i) (drop i text) ≡ drop i text
rest_whole text i = between_to_end text i (length text) (omega arith)

pub cut_found : (mark place : ℕ) (text : List ℕ) → Some place ≡ position (λ b. b == mark) text
    → text ≡ take place text ++ (mark ∷ take (length text - (place + 1)) (drop (place + 1) text))
cut_found mark place text is =
    let p = position-Some (λ b. b == mark) text place 0 (sym is) in
    let here : get_or text place 0 ≡ mark = eqb-true _ _ p.1 in
    let inside : place < length text = p.0 in
    sym (take-append-drop place text)
    ∙ ap (λ xs. take place text ++ xs) (drop-cons text place 0 inside ∙ ap (λ b. b ∷ drop (suc place) text) here)
    ∙ ap (λ xs. take place text ++ (mark ∷ xs))
    (ap (λ i. drop i text) (sym (add-one place)) ∙ sym (rest_whole text (place + 1)))

place_is : (mark place : ℕ) (text front rest : List ℕ) → Some place ≡ position (λ b. b == mark) text
    → LacksByte mark front → text ≡ front ++ (mark ∷ rest) → place ≡ length front
place_is mark place text front rest is lacks parts =
    ap (λ o. unwrap_or o 0) (is ∙ ap (position (λ b. b == mark)) parts ∙ position_marked mark front rest lacks)

pub cut_only : (mark place : ℕ) (text front rest : List ℕ) → Some place ≡ position (λ b. b == mark) text
    → LacksByte mark front → text ≡ front ++ (mark ∷ rest)
    → (take place text ≡ front) × (take (length text - (place + 1)) (drop (place + 1) text) ≡ rest)
cut_only mark place text front rest is lacks parts =
    let at = place_is mark place text front rest is lacks parts in (
      ap (λ i. take i text) at ∙ ap (take (length front)) parts ∙ take-append_seam front (mark ∷ rest),
      rest_whole text (place + 1) ∙ ap (λ i. drop (i + 1) text) at ∙ ap (drop (length front + 1)) parts
          ∙ drop-append-add front (mark ∷ rest) 1,
    )

pub cut_never : (mark : ℕ) (text front rest : List ℕ) → None ≡ position (λ b. b == mark) text → LacksByte mark front
    → text ≡ front ++ (mark ∷ rest) → ⊥
cut_never mark text front rest is lacks parts =
    let e : None ≡ Some (length front) = is ∙ ap (position (λ b. b == mark)) parts
    ∙ position_marked mark front rest lacks in
    cc
