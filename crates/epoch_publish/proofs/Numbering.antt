-- Lists of batches that are numbered without a gap.
use Rattle.std.proofs.Common.{◌≡◌, ℕ, ◌+◌, List, [], ◌∷◌, ◌++◌, length, refl, ap, sym, subst, ◌∙◌, arith}
use mathlib.Core.List.{IsPrefix}
use Rattle.urpf_base.specs.declared.kinds.Kind.{Kind}
use Rattle.cover_table.specs.declared.batch.Batch.{Batch}
use Rattle.cover_table.specs.Snapshots.{Publication, after, fold, opening, step}
use Rattle.epoch_publish.specs.History.{AreNumberedFrom, AreNumbered, EndIn}
use Rattle.epoch_publish.proofs.Beginnings.{prefix_earlier}

pub numbered_more : (number : ℕ) (batches : List Batch) (batch : Batch) → AreNumberedFrom number batches
    → batch.number ≡ number + length batches → AreNumberedFrom number (batches ++ batch ∷ [])
numbered_more number [] batch numbered next = (omega (arith, next), tt)
numbered_more number (x ∷ batches) batch numbered next =
    (numbered.0, numbered_more (number + 1) batches batch numbered.1 (omega (arith, next)))

pub numbered_front : (number : ℕ) (batches more : List Batch) → AreNumberedFrom number (batches ++ more) → AreNumberedFrom number batches
numbered_front number [] more numbered = tt
numbered_front number (x ∷ batches) more numbered = (numbered.0, numbered_front (number + 1) batches more numbered.1)

after_number : (p : Publication) (batches : List Batch) → AreNumberedFrom (p.number + 1) batches → (after p batches).number ≡ p.number + length batches
after_number p [] numbered = omega arith
after_number p (batch ∷ batches) numbered =
    let next : AreNumberedFrom (batch.number + 1) batches =
    subst (λ (n : ℕ). AreNumberedFrom (n + 1) batches) (sym numbered.0) numbered.1 in
    omega (arith, after_number (step p batch) batches next, numbered.0)

pub fold_number : (kinds : List (ℕ × Kind)) (batches : List Batch) → AreNumbered batches → (fold kinds batches).number ≡ length batches
fold_number kinds batches numbered = omega (arith, after_number (opening kinds) batches numbered)

after_more : (p : Publication) (batches : List Batch) (batch : Batch) → after p (batches ++ batch ∷ []) ≡ step (after p batches) batch
after_more p [] batch = refl
after_more p (x ∷ batches) batch = after_more (step p x) batches batch

-- the step of the last batch leads from the fold of those before it to the fold of all
pub fold_next : (kinds : List (ℕ × Kind)) (known next : List Batch) (batch : Batch) → IsPrefix known next → EndIn next batch
    → length next ≡ length known + 1 → step (fold kinds known) batch ≡ fold kinds next
fold_next kinds known next batch begins ends len =
    let all : next ≡ ends.0 ++ batch ∷ [] = ends.1 in
    let begins' : IsPrefix known (ends.0 ++ batch ∷ []) = subst (IsPrefix known) all begins in
    let len' : length (ends.0 ++ batch ∷ []) ≡ length known + 1 = subst (λ (l : List Batch). length l ≡ length known + 1) all len in
    let same : known ≡ ends.0 = prefix_earlier known ends.0 batch begins' len' in
    ap (λ (l : List Batch). step (fold kinds l) batch) same ∙ (sym (after_more (opening kinds) ends.0 batch) ∙ sym (ap (fold kinds) all))
