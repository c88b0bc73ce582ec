-- Two ordered lists joined into one: each change and each question of a half is that of both joined.
use Rattle.std.proofs.Common.{◌≡◌, true, false, cond, ◌||◌, List, [], ◌∷◌, ◌++◌, map, refl, ap, ◌∙◌}
use Rattle.std.specs.declared.cmp.Ordering.{Ordering}
use Rattle.std.specs.declared.cmp.Ordering.TheVariants.{Less, Equal, Greater}
use Rattle.std.specs.Ordering.{is_eq, match_ordering}
use Rattle.std.specs.List.{AllByRecursion, list_any}
use Rattle.std.specs.List.Sorted.{IsStrictlySortedBy}
use Rattle.std.specs.BTreeSet.{insert_key}
use Rattle.std.specs.Set.{remove_key}
use Rattle.prefix_map.proofs.Joined.{on}

module _ {A K : Type 0} (R : K → K → Ordering) (f : A → K) where
  below-under : (x : A) (ys : List A) → AllByRecursion (λ y. R (f x) (f y) ≡ Less) ys
      → AllByRecursion (λ y. R (f x) y ≡ Less) (map f ys)
  below-under x [] h = h
  below-under x (y ∷ ys) h = (h.0, below-under x ys h.1)

  sorted-under : (xs : List A) → IsStrictlySortedBy (on R f) xs → IsStrictlySortedBy R (map f xs)
  unfolding IsStrictlySortedBy
  sorted-under [] h = h
  sorted-under (x ∷ xs) h = (below-under x xs h.0, sorted-under xs h.1)

  any-under : (q : A) (xs : List A)
      → list_any (λ k. is_eq (R (f q) k)) (map f xs) ≡ list_any (λ x. is_eq (on R f q x)) xs
  any-under q [] = refl
  any-under q (x ∷ xs) = ap (λ b. is_eq (R (f q) (f x)) || b) (any-under q xs)

  insert-under : (q : A) (xs : List A) → insert_key R (map f xs) (f q) ≡ map f (insert_key (on R f) xs q)
  insert-under q [] = refl
  insert-under q (x ∷ xs) =
      elim (R (f q) (f x))
      as (λ o. match_ordering o (f q ∷ f x ∷ map f xs) (f x ∷ map f xs) (f x ∷ insert_key R (map f xs) (f q))
      ≡ map f (match_ordering o (q ∷ x ∷ xs) (x ∷ xs) (x ∷ insert_key (on R f) xs q))) [
        | Less ↦ refl
        | Equal ↦ refl
        | Greater ↦ ap (λ t. f x ∷ t) (insert-under q xs)
      ]

  remove-under : (q : A) (xs : List A)
      → remove_key (λ k. is_eq (R (f q) k)) (map f xs) ≡ map f (remove_key (λ x. is_eq (on R f q x)) xs)
  remove-under q [] = refl
  remove-under q (x ∷ xs) =
      elim (is_eq (R (f q) (f x)))
      as (λ b. cond b (map f xs) (f x ∷ remove_key (λ k. is_eq (R (f q) k)) (map f xs))
      ≡ map f (cond b xs (x ∷ remove_key (λ y. is_eq (on R f q y)) xs))) [
        | true ↦ refl
        | false ↦ ap (λ t. f x ∷ t) (remove-under q xs)
      ]

module _ {A B K : Type 0} (R : K → K → Ordering) (left : A → K) (right : B → K)
    (apart : (x : A) (y : B) → R (left x) (right y) ≡ Less) (back : (x : A) (y : B) → R (right y) (left x) ≡ Greater)
  where
    -- the keys of the one list, and then those of the other
    abbrev pub both : List A → List B → List K
    both xs ys = map left xs ++ map right ys

    below-right : (x : A) (ys : List B) → AllByRecursion (λ k. R (left x) k ≡ Less) (map right ys)
    below-right x [] = tt
    below-right x (y ∷ ys) = (apart x y, below-right x ys)

    below-both : (x : A) (xs : List A) (ys : List B) → AllByRecursion (λ z. R (left x) (left z) ≡ Less) xs
        → AllByRecursion (λ k. R (left x) k ≡ Less) (both xs ys)
    below-both x [] ys h = below-right x ys
    below-both x (z ∷ xs) ys h = (h.0, below-both x xs ys h.1)

    -- the joined list ascends where both do
    pub sorted-both : (xs : List A) (ys : List B) → IsStrictlySortedBy (on R left) xs
        → IsStrictlySortedBy (on R right) ys → IsStrictlySortedBy R (both xs ys)
    unfolding IsStrictlySortedBy
    sorted-both [] ys p q = sorted-under R right ys q
    sorted-both (x ∷ xs) ys p q = (below-both x xs ys p.0, sorted-both xs ys p.1 q)

    any_none-right : (q : A) (ys : List B) → list_any (λ k. is_eq (R (left q) k)) (map right ys) ≡ false
    any_none-right q [] = refl
    any_none-right q (y ∷ ys) =
        ap (λ o. is_eq o || list_any (λ k. is_eq (R (left q) k)) (map right ys)) (apart q y) ∙ any_none-right q ys

    -- a key of one half is looked up in that half alone
    pub any-left : (q : A) (xs : List A) (ys : List B)
        → list_any (λ k. is_eq (R (left q) k)) (both xs ys) ≡ list_any (λ x. is_eq (on R left q x)) xs
    any-left q [] ys = any_none-right q ys
    any-left q (x ∷ xs) ys = ap (λ b. is_eq (R (left q) (left x)) || b) (any-left q xs ys)

    pub any-right : (q : B) (xs : List A) (ys : List B)
        → list_any (λ k. is_eq (R (right q) k)) (both xs ys) ≡ list_any (λ y. is_eq (on R right q y)) ys
    any-right q [] ys = any-under R right q ys
    any-right q (x ∷ xs) ys =
        ap (λ o. is_eq o || list_any (λ k. is_eq (R (right q) k)) (both xs ys)) (back x q) ∙ any-right q xs ys

    insert_first-right : (q : A) (ys : List B) → insert_key R (map right ys) (left q) ≡ left q ∷ map right ys
    insert_first-right q [] = refl
    insert_first-right q (y ∷ ys) =
        ap (λ o. match_ordering o (left q ∷ right y ∷ map right ys) (right y ∷ map right ys)
        (right y ∷ insert_key R (map right ys) (left q))) (apart q y)

    -- a key of one half goes into that half
    pub insert-left : (q : A) (xs : List A) (ys : List B)
        → insert_key R (both xs ys) (left q) ≡ both (insert_key (on R left) xs q) ys
    insert-left q [] ys = insert_first-right q ys
    insert-left q (x ∷ xs) ys =
        elim (R (left q) (left x))
        as (λ o. match_ordering o (left q ∷ left x ∷ both xs ys) (left x ∷ both xs ys)
        (left x ∷ insert_key R (both xs ys) (left q))
        ≡ both (match_ordering o (q ∷ x ∷ xs) (x ∷ xs) (x ∷ insert_key (on R left) xs q)) ys) [
          | Less ↦ refl
          | Equal ↦ refl
          | Greater ↦ ap (λ t. left x ∷ t) (insert-left q xs ys)
        ]

    pub insert-right : (q : B) (xs : List A) (ys : List B)
        → insert_key R (both xs ys) (right q) ≡ both xs (insert_key (on R right) ys q)
    insert-right q [] ys = insert-under R right q ys
    insert-right q (x ∷ xs) ys =
        ap (λ o. match_ordering o (right q ∷ left x ∷ both xs ys) (left x ∷ both xs ys)
        (left x ∷ insert_key R (both xs ys) (right q))) (back x q)
        ∙ ap (λ t. left x ∷ t) (insert-right q xs ys)

    remove_none-right : (q : A) (ys : List B) → remove_key (λ k. is_eq (R (left q) k)) (map right ys) ≡ map right ys
    remove_none-right q [] = refl
    remove_none-right q (y ∷ ys) =
        ap (λ o. cond (is_eq o) (map right ys) (right y ∷ remove_key (λ k. is_eq (R (left q) k)) (map right ys)))
        (apart q y)
        ∙ ap (λ t. right y ∷ t) (remove_none-right q ys)

    -- and goes out of that half
    pub remove-left : (q : A) (xs : List A) (ys : List B)
        → remove_key (λ k. is_eq (R (left q) k)) (both xs ys) ≡ both (remove_key (λ x. is_eq (on R left q x)) xs) ys
    remove-left q [] ys = remove_none-right q ys
    remove-left q (x ∷ xs) ys =
        elim (is_eq (R (left q) (left x)))
        as (λ b. cond b (both xs ys) (left x ∷ remove_key (λ k. is_eq (R (left q) k)) (both xs ys))
        ≡ both (cond b xs (x ∷ remove_key (λ z. is_eq (on R left q z)) xs)) ys) [
          | true ↦ refl
          | false ↦ ap (λ t. left x ∷ t) (remove-left q xs ys)
        ]

    pub remove-right : (q : B) (xs : List A) (ys : List B)
        → remove_key (λ k. is_eq (R (right q) k)) (both xs ys) ≡ both xs (remove_key (λ y. is_eq (on R right q y)) ys)
    remove-right q [] ys = remove-under R right q ys
    remove-right q (x ∷ xs) ys =
        ap (λ o. cond (is_eq o) (both xs ys) (left x ∷ remove_key (λ k. is_eq (R (right q) k)) (both xs ys))) (back x q)
        ∙ ap (λ t. left x ∷ t) (remove-right q xs ys)
