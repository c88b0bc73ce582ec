-- Lists with another element at one place.
use Rattle.std.proofs.Common.{◌≡◌, ℕ, zero, suc, ◌<◌, List, [], ◌∷◌, ◌++◌, length, take, Some, refl, ap, arith}
use Rattle.std.proofs.Common.{unwrap_or}
use Rattle.std.specs.Prelude.{slice_get, slice_set}

pub some_one : {X : Type 0} (a b : X) → Some a ≡ Some b → a ≡ b
some_one a b same = ap (λ o. unwrap_or o a) same

-- within the list there is an element
pub some_at : {X : Type 0} (xs : List X) (i : ℕ) → i < length xs → (x : X) × (slice_get xs i ≡ Some x)
some_at [] i within = absurd (omega arith)
some_at (x ∷ xs) zero within = (x, refl)
some_at (x ∷ xs) (suc i) within = some_at xs i (omega arith)

-- the element that is there is put there
pub set_same : {X : Type 0} (xs : List X) (i : ℕ) (x : X) → slice_get xs i ≡ Some x → xs ≡ slice_set xs i x
set_same [] i x there = refl
set_same (y ∷ xs) zero x there = ap (λ z. z ∷ xs) (some_one y x there)
set_same (y ∷ xs) (suc i) x there = ap (λ zs. y ∷ zs) (set_same xs i x there)

-- what was put there is there
pub get_set : {X : Type 0} (xs : List X) (i : ℕ) (x y : X) → slice_get xs i ≡ Some x
    → slice_get (slice_set xs i y) i ≡ Some y
get_set [] i x y there = cc
get_set (z ∷ xs) zero x y there = refl
get_set (z ∷ xs) (suc i) x y there = get_set xs i x y there

-- one element more of a list
pub take_next : {X : Type 0} (xs : List X) (n : ℕ) (x : X) → slice_get xs n ≡ Some x
    → take (suc n) xs ≡ take n xs ++ x ∷ []
take_next [] n x there = cc
take_next (y ∷ xs) zero x there = ap (λ o. unwrap_or o x ∷ []) there
take_next (y ∷ xs) (suc n) x there = ap (λ ys. y ∷ ys) (take_next xs n x there)
