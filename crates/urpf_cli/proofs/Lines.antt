-- Words out of their places, and lines out of their pieces.
use Rattle.std.proofs.Common.{◌≡◌, ℕ, ◌-◌, ◌≤◌, ◌<◌, List, [], ◌∷◌, ◌++◌, length, get_or, take, drop, map}
use Rattle.std.proofs.Common.{Bool, true, false, arith, refl, append_assoc, ap, sym, subst, ◌∙◌, length-drop}
use Rattle.std.specs.Prelude.{not}
use Rattle.std.specs.List.{All}
use Rattle.std.specs.Str.{bytes_eq}
use Rattle.std.proofs.lemmas.List.{get_or-map, length-map, take_all}
use Rattle.std.proofs.lemmas.List.Elements.{All-map}
use Rattle.std.proofs.lemmas.Slice.Eq.{bytes_eq-Decides}

-- a list of three items is its items
pub three_items : {X : Type 0} (xs : List X) (a b c : X) → 3 ≤ length xs → length xs < 4 → a ≡ get_or xs 0 a
    → b ≡ get_or xs 1 b → c ≡ get_or xs 2 c → xs ≡ a ∷ b ∷ c ∷ []
three_items [] a b c some few is_a is_b is_c = absurd (omega arith)
three_items (x ∷ []) a b c some few is_a is_b is_c = absurd (omega arith)
three_items (x ∷ y ∷ []) a b c some few is_a is_b is_c = absurd (omega arith)
three_items (x ∷ y ∷ z ∷ []) a b c some few is_a is_b is_c = cc
three_items (x ∷ y ∷ z ∷ w ∷ more) a b c some few is_a is_b is_c = absurd (omega arith)

-- pieces that were appended one by one
pub pushed_thrice : (old a b c : List ℕ) → ((old ++ a) ++ b) ++ c ≡ old ++ ((a ++ b) ++ c)
pushed_thrice old a b c = simp append_assoc

-- a text that is not unequal is equal
pub not_unequal : (xs ys : List ℕ) → false ≡ not (bytes_eq xs ys) → xs ≡ ys
not_unequal xs ys told = (bytes_eq-Decides xs ys).0 (true_from (bytes_eq xs ys) told)
  where
    true_from : (b : Bool) → false ≡ not b → b ≡ true
    true_from true e = refl
    true_from false e = e

-- a fact of each text is one of the word at each place
pub each_at : {X : Type 0} (f : X → List ℕ) (P : List ℕ → Type 0) (xs : List X) (i : ℕ) (x : X) → i < length xs
    → x ≡ get_or xs i x → All P (map f xs) → P (f x)
each_at f P xs i x within is all =
    let at = all i (f x) (omega (arith, length-map xs f)) in
    subst P (get_or-map f xs i x (f x) within ∙ ap f (sym is)) at

-- a list of four items and more of them is its items
pub four_items : {X : Type 0} (xs : List X) (a b c d : X) → 4 ≤ length xs → a ≡ get_or xs 0 a → b ≡ get_or xs 1 b
    → c ≡ get_or xs 2 c → d ≡ get_or xs 3 d → xs ≡ a ∷ b ∷ c ∷ d ∷ drop 4 xs
four_items [] a b c d some is_a is_b is_c is_d = absurd (omega arith)
four_items (x ∷ []) a b c d some is_a is_b is_c is_d = absurd (omega arith)
four_items (x ∷ y ∷ []) a b c d some is_a is_b is_c is_d = absurd (omega arith)
four_items (x ∷ y ∷ z ∷ []) a b c d some is_a is_b is_c is_d = absurd (omega arith)
four_items (x ∷ y ∷ z ∷ w ∷ more) a b c d some is_a is_b is_c is_d = cc

-- the same of four pieces
pub pushed_four : (old a b c d : List ℕ) → (((old ++ a) ++ b) ++ c) ++ d ≡ old ++ (((a ++ b) ++ c) ++ d)
pushed_four old a b c d = simp append_assoc

-- a fact of the words up to the last is one of each text
pub each_of_all : {X : Type 0} (f : X → List ℕ) (P : List ℕ → Type 0) (xs : List X) (n : ℕ) → length xs ≤ n
    → All (λ w. P (f w)) (take n xs) → All P (map f xs)
each_of_all f P xs n past all = All-map P f xs (subst (λ ws. All (λ w. P (f w)) ws) (take_all n xs past) all)

-- what follows the first items of a list
pub rest_of : {X : Type 0} (n : ℕ) (xs : List X) → take (length xs - n) (drop n xs) ≡ drop n xs
rest_of n xs = take_all (length xs - n) (drop n xs) (omega (arith, length-drop n xs))
