-- A text is cut at its last mark.
use Rattle.std.proofs.Common.{◌≡◌, ℕ, zero, suc, ◌==◌, false, ◌+◌, ◌-◌, ◌<◌, List, ◌∷◌, ◌++◌, length, get_or, take, drop, Some, ap, sym, ◌∙◌}
use Rattle.std.proofs.Common.{arith, add-one, drop-cons, length-append, length-drop, subst}
use Rattle.std.specs.Str.Iter.{LacksByte}
use Rattle.std.proofs.lemmas.List.{take-append-drop, get_or-drop, get_or-append-add}
use Rattle.std.proofs.Math.Seq.{get_or-append_seam, take-append_seam, drop-append-add}
use Rattle.ip_text.proofs.Marks.{rest_whole}
use Rattle.urpf_base.specs.declared.address.Addr.{Addr}
use Rattle.mrt_feed.specs.declared.words.MrtSpec.{MrtSpec}

pub last_found : (mark place : ℕ) (text : List ℕ) → place < length text → get_or text place 0 ≡ mark
    → text ≡ take place text ++ (mark ∷ take (length text - (place + 1)) (drop (place + 1) text))
last_found mark place text inside here =
    sym (take-append-drop place text)
    ∙ ap (λ xs. take place text ++ xs) (drop-cons text place 0 inside ∙ ap (λ b. b ∷ drop (suc place) text) here)
    ∙ ap (λ xs. take place text ++ (mark ∷ xs))
    (ap (λ i. drop i text) (sym (add-one place)) ∙ sym (rest_whole text (place + 1)))

-- a mark stands behind the place
behind_mark : (mark : ℕ) (front rest : List ℕ) (place : ℕ) → place < length front
    → get_or (drop (place + 1) (front ++ (mark ∷ rest))) (length front - (place + 1)) 0 ≡ mark
behind_mark mark front rest place less =
    let sum : place + 1 + (length front - (place + 1)) ≡ length front = omega arith in
    get_or-drop (place + 1) (front ++ (mark ∷ rest)) (length front - (place + 1)) 0
    ∙ ap (λ k. get_or (front ++ (mark ∷ rest)) k 0) sum ∙ get_or-append_seam front mark rest 0

-- the place is behind the mark
within_rest : (mark : ℕ) (front rest : List ℕ) (place : ℕ) → length front < place
    → get_or (front ++ (mark ∷ rest)) place 0 ≡ get_or rest (place - (length front + 1)) 0
within_rest mark front rest place more =
    let sum : place ≡ length front + suc (place - (length front + 1)) = omega arith in
    ap (λ k. get_or (front ++ (mark ∷ rest)) k 0) sum
    ∙ get_or-append-add front (mark ∷ rest) (suc (place - (length front + 1))) 0

place_low : (mark : ℕ) (front rest : List ℕ) (place : ℕ) → LacksByte mark (drop (place + 1) (front ++ (mark ∷ rest)))
    → place < length front → ⊥
place_low mark front rest place lacks less =
    let all = front ++ (mark ∷ rest) in
    lacks (length front - (place + 1))
    (omega (arith, length-drop (place + 1) all, length-append front (mark ∷ rest)))
    (behind_mark mark front rest place less)

place_high : (mark : ℕ) (front rest : List ℕ) (place : ℕ) → LacksByte mark rest
    → place < length (front ++ (mark ∷ rest)) → get_or (front ++ (mark ∷ rest)) place 0 ≡ mark
    → length front < place → ⊥
place_high mark front rest place lacks inside here more =
    lacks (place - (length front + 1)) (omega (arith, length-append front (mark ∷ rest)))
    (sym (within_rest mark front rest place more) ∙ here)

-- the last mark is the only one that nothing with a mark stands behind
last_place : (mark : ℕ) (front rest : List ℕ) (place : ℕ) → LacksByte mark rest
    → place < length (front ++ (mark ∷ rest)) → get_or (front ++ (mark ∷ rest)) place 0 ≡ mark
    → LacksByte mark (drop (place + 1) (front ++ (mark ∷ rest))) → place ≡ length front
last_place mark front rest place lacks inside here later =
    omega (arith, place_low mark front rest place later, place_high mark front rest place lacks inside here)

pub last_only : (mark place : ℕ) (text front rest : List ℕ) → place < length text → get_or text place 0 ≡ mark
    → LacksByte mark (drop (place + 1) text) → text ≡ front ++ (mark ∷ rest) → LacksByte mark rest
    → (take place text ≡ front) × (take (length text - (place + 1)) (drop (place + 1) text) ≡ rest)
last_only mark place text front rest inside here later parts lacks =
    let at : place ≡ length front = last_place mark front rest place lacks
    (subst (λ t. place < length t) parts inside) (subst (λ t. get_or t place 0 ≡ mark) parts here)
    (subst (λ t. LacksByte mark (drop (place + 1) t)) parts later) in (
      ap (λ i. take i text) at ∙ ap (take (length front)) parts ∙ take-append_seam front (mark ∷ rest),
      rest_whole text (place + 1) ∙ ap (λ i. drop (i + 1) text) at ∙ ap (drop (length front + 1)) parts
          ∙ drop-append-add front (mark ∷ rest) 1,
    )

-- a text with a mark does not lack it
pub last_never : (mark : ℕ) (text front rest : List ℕ) → LacksByte mark text → text ≡ front ++ (mark ∷ rest) → ⊥
last_never mark text front rest lacks parts =
    lacks (length front) (omega (arith, ap length parts, length-append front (mark ∷ rest)))
    (ap (λ t. get_or t (length front) 0) parts ∙ get_or-append_seam front mark rest 0)

abbrev spec_of : Addr → ℕ → ℕ → MrtSpec
spec_of peer from to = record { peer = peer; from = from; to = to }

-- two specs with the same peer and place
pub same_spec : (spec : MrtSpec) (peer : Addr) (to : ℕ) → spec.from ≡ 4 → Some peer ≡ Some spec.peer → to ≡ spec.to
    → Some (record { peer = peer; from = 4; to = to }) ≡ Some spec
same_spec spec peer to from_is peer_is to_is =
    let e : peer ≡ spec.peer = cc in
    ap (λ a. Some (spec_of a 4 to)) e ∙ ap (λ k. Some (spec_of spec.peer 4 k)) to_is
    ∙ ap (λ k. Some (spec_of spec.peer k spec.to)) (sym from_is)

pub some_octets : (n : ℕ) → n == 0 ≡ false → 0 < n
some_octets zero is = absurd cc
some_octets (suc n) is = omega arith
