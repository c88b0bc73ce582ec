-- Two lists of pairs joined into one: each change and each question of a half is that of both joined.
use Rattle.std.proofs.Common.{◌≡◌, ◌+◌, Bool, true, false, cond, not, ◌&&◌, List, [], ◌∷◌, ◌++◌, length}
use Rattle.std.proofs.Common.{refl, sym, ap, ◌∙◌, Some, None}
use Rattle.std.specs.declared.cmp.Ordering.{Ordering}
use Rattle.std.specs.declared.cmp.Ordering.TheVariants.{Less, Equal, Greater}
use Rattle.std.specs.Ordering.{is_eq, is_lt, eq_by_cmp, match_ordering}
use Rattle.std.specs.Cmp.{IsTotalOrder}
use Rattle.std.specs.List.{AllByRecursion, filter}
use Rattle.std.specs.Map.{remove_entry}
use Rattle.std.specs.BTreeMap.{insert_entry}
use Rattle.std.specs.FinMap.{find, put, is_sorted}
use Rattle.std.specs.FinMap.Entries.{below_all, by_order}
use Rattle.std.proofs.lemmas.List.{length-map, length-append}
use Rattle.prefix_map.specs.Kept.{under, joined}
use Rattle.prefix_map.proofs.Sorted.{head_below, tail_sorted}

-- the order of what the keys stand for
abbrev pub on : {A K : Type 0} → (K → K → Ordering) → (A → K) → A → A → Ordering
on R f x y = R (f x) (f y)

filter-append : {X : Type 0} (p : X → Bool) (xs ys : List X) → filter p (xs ++ ys) ≡ filter p xs ++ filter p ys
filter-append p [] ys = refl
filter-append p (x ∷ xs) ys =
    elim (p x)
    as (λ b. cond b (x ∷ filter p (xs ++ ys)) (filter p (xs ++ ys)) ≡ cond b (x ∷ filter p xs) (filter p xs)
    ++ filter p ys) [
      | true ↦ ap (λ t. x ∷ t) (filter-append p xs ys)
      | false ↦ filter-append p xs ys
    ]

filter-under : {A K X : Type 0} (f : A → K) (p : K → Bool) (xs : List (A × X))
    → filter (λ e. p e.0) (under f xs) ≡ under f (filter (λ e. p (f e.0)) xs)
filter-under f p [] = refl
filter-under {A} {K} {X} f p (x ∷ xs) =
    let here : K × X = (f x.0, x.1) in
    elim (p (f x.0))
    as (λ b. cond b (here ∷ filter (λ e. p e.0) (under f xs)) (filter (λ e. p e.0) (under f xs))
    ≡ under f (cond b (x ∷ filter (λ e. p (f e.0)) xs) (filter (λ e. p (f e.0)) xs))) [
      | true ↦ ap (λ t. here ∷ t) (filter-under f p xs)
      | false ↦ filter-under f p xs
    ]

pub filter_all : {X : Type 0} (xs : List X) → filter (λ _. true) xs ≡ xs
filter_all [] = refl
filter_all (x ∷ xs) = ap (λ t. x ∷ t) (filter_all xs)

pub filter_none : {X : Type 0} (xs : List X) → filter (λ _. false) xs ≡ []
filter_none [] = refl
filter_none (x ∷ xs) = filter_none xs

pub filter_same : {X : Type 0} (p q : X → Bool) → ((x : X) → p x ≡ q x) → (xs : List X) → filter p xs ≡ filter q xs
filter_same p q same xs i = filter (λ x. same x i) xs

pub length-joined : {A B K X : Type 0} (left : A → K) (right : B → K) (xs : List (A × X)) (ys : List (B × X))
    → length (joined left right xs ys) ≡ length xs + length ys
length-joined left right xs ys =
    length-append (under left xs) (under right ys) ∙ ap (λ n. n + length (under right ys)) (length-map xs _)
    ∙ ap (λ n. length xs + n) (length-map ys _)

both : (a b : Bool) → a ≡ true → b ≡ true → (a && b) ≡ true
both a b e f = cc

module _ {A K X : Type 0} (R : K → K → Ordering) (f : A → K) where
  below-under : (x : A) (es : List (A × X)) → below_all R (f x) (under f es) ≡ below_all (on R f) x es
  below-under x [] = refl
  below-under x (e ∷ es) = ap (λ b. is_lt (R (f x) (f e.0)) && b) (below-under x es)

  pub sorted-under : (es : List (A × X)) → is_sorted R (under f es) ≡ is_sorted (on R f) es
  sorted-under [] = refl
  sorted-under (e ∷ es) = λ i. below-under e.0 es i && sorted-under es i

  pub find-under : (q : A) (es : List (A × X)) → find R (f q) (under f es) ≡ find (on R f) q es
  find-under q [] = refl
  find-under q (e ∷ es) = ap (cond (is_eq (R (f q) (f e.0))) (Some e.1)) (find-under q es)

  put-under : (k : A) (v : X) (es : List (A × X)) → put R (f k) v (under f es) ≡ under f (put (on R f) k v es)
  put-under k v [] = refl
  put-under k v (e ∷ es) =
      elim (R (f k) (f e.0))
      as (λ o. by_order o ((f k, v) ∷ (f e.0, e.1) ∷ under f es) ((f e.0, v) ∷ under f es)
      ((f e.0, e.1) ∷ put R (f k) v (under f es))
      ≡ under f (by_order o ((k, v) ∷ e ∷ es) ((e.0, v) ∷ es) (e ∷ put (on R f) k v es))) [
        | Less ↦ refl
        | Equal ↦ refl
        | Greater ↦ ap (λ t. (f e.0, e.1) ∷ t) (put-under k v es)
      ]

module _ {A B K X : Type 0} (R : K → K → Ordering) (left : A → K) (right : B → K)
    (apart : (x : A) (y : B) → R (left x) (right y) ≡ Less) (back : (x : A) (y : B) → R (right y) (left x) ≡ Greater)
  where
    below-right : (x : A) (ys : List (B × X)) → below_all R (left x) (under right ys) ≡ true
    below-right x [] = refl
    below-right x (y ∷ ys) = both _ _ (ap is_lt (apart x y.0)) (below-right x ys)

    below-joined : (x : A) (xs : List (A × X)) (ys : List (B × X))
        → below_all R (left x) (joined left right xs ys) ≡ below_all (on R left) x xs
    below-joined x [] ys = below-right x ys
    below-joined x (e ∷ xs) ys = ap (λ b. is_lt (R (left x) (left e.0)) && b) (below-joined x xs ys)

    -- the joined list ascends where both do
    pub sorted-joined : (xs : List (A × X)) (ys : List (B × X)) → is_sorted (on R left) xs ≡ true
        → is_sorted (on R right) ys ≡ true → is_sorted R (joined left right xs ys) ≡ true
    sorted-joined [] ys p q = sorted-under R right ys ∙ q
    sorted-joined (x ∷ xs) ys p q =
        both _ _ (below-joined x.0 xs ys ∙ front _ _ p) (sorted-joined xs ys (tail_sorted (on R left) x xs p) q)
      where
        front : (a b : Bool) → (a && b) ≡ true → a ≡ true
        front true b e = refl
        front false b e = cc

    find_none-right : (q : A) (ys : List (B × X)) → find R (left q) (under right ys) ≡ None
    find_none-right q [] = refl
    find_none-right q (y ∷ ys) = ap (λ o. cond (is_eq o) (Some y.1) (find R (left q) (under right ys))) (apart q y.0)
        ∙ find_none-right q ys

    -- a key of one half is looked up in that half alone
    pub find-left : (q : A) (xs : List (A × X)) (ys : List (B × X))
        → find R (left q) (joined left right xs ys) ≡ find (on R left) q xs
    find-left q [] ys = find_none-right q ys
    find-left q (x ∷ xs) ys = ap (cond (is_eq (R (left q) (left x.0))) (Some x.1)) (find-left q xs ys)

    pub find-right : (q : B) (xs : List (A × X)) (ys : List (B × X))
        → find R (right q) (joined left right xs ys) ≡ find (on R right) q ys
    find-right q [] ys = find-under R right q ys
    find-right q (x ∷ xs) ys =
        ap (λ o. cond (is_eq o) (Some x.1) (find R (right q) (joined left right xs ys))) (back x.0 q)
        ∙ find-right q xs ys

    put_first-right : (k : A) (v : X) (ys : List (B × X))
        → put R (left k) v (under right ys) ≡ (left k, v) ∷ under right ys
    put_first-right k v [] = refl
    put_first-right k v (y ∷ ys) =
        ap (λ o. by_order o ((left k, v) ∷ under right (y ∷ ys)) ((right y.0, v) ∷ under right ys)
        ((right y.0, y.1) ∷ put R (left k) v (under right ys))) (apart k y.0)

    -- a pair of one half is put into that half
    pub put-left : (k : A) (v : X) (xs : List (A × X)) (ys : List (B × X))
        → put R (left k) v (joined left right xs ys) ≡ joined left right (put (on R left) k v xs) ys
    put-left k v [] ys = put_first-right k v ys
    put-left k v (x ∷ xs) ys =
        elim (R (left k) (left x.0))
        as (λ o. by_order o ((left k, v) ∷ joined left right (x ∷ xs) ys) ((left x.0, v) ∷ joined left right xs ys)
        ((left x.0, x.1) ∷ put R (left k) v (joined left right xs ys))
        ≡ joined left right (by_order o ((k, v) ∷ x ∷ xs) ((x.0, v) ∷ xs) (x ∷ put (on R left) k v xs)) ys) [
          | Less ↦ refl
          | Equal ↦ refl
          | Greater ↦ ap (λ t. (left x.0, x.1) ∷ t) (put-left k v xs ys)
        ]

    pub put-right : (k : B) (v : X) (xs : List (A × X)) (ys : List (B × X))
        → put R (right k) v (joined left right xs ys) ≡ joined left right xs (put (on R right) k v ys)
    put-right k v [] ys = put-under R right k v ys
    put-right k v (x ∷ xs) ys =
        ap (λ o. by_order o ((right k, v) ∷ joined left right (x ∷ xs) ys) ((left x.0, v) ∷ joined left right xs ys)
        ((left x.0, x.1) ∷ put R (right k) v (joined left right xs ys))) (back x.0 k)
        ∙ ap (λ t. (left x.0, x.1) ∷ t) (put-right k v xs ys)

    -- a filter by keys goes into both halves
    pub filter-joined : (p : K → Bool) (xs : List (A × X)) (ys : List (B × X))
        → filter (λ e. p e.0) (joined left right xs ys)
        ≡ joined left right (filter (λ e. p (left e.0)) xs) (filter (λ e. p (right e.0)) ys)
    filter-joined p xs ys =
        filter-append (λ e. p e.0) (under left xs) (under right ys)
        ∙ (λ i. filter-under left p xs i ++ filter-under right p ys i)

    -- all but a key of one half
    pub others-left : (q : A) (xs : List (A × X)) (ys : List (B × X))
        → filter (λ e. not (eq_by_cmp R (left q) e.0)) (joined left right xs ys)
        ≡ joined left right (filter (λ e. not (is_eq (R (left q) (left e.0)))) xs) ys
    others-left q xs ys =
        filter-joined (λ k. not (is_eq (R (left q) k))) xs ys
        ∙ ap (λ t. joined left right (filter (λ e. not (is_eq (R (left q) (left e.0)))) xs) t)
        (filter_same _ _ (λ (e : B × X). ap (λ o. not (is_eq o)) (apart q e.0)) ys ∙ filter_all ys)

    pub others-right : (q : B) (xs : List (A × X)) (ys : List (B × X))
        → filter (λ e. not (eq_by_cmp R (right q) e.0)) (joined left right xs ys)
        ≡ joined left right xs (filter (λ e. not (is_eq (R (right q) (right e.0)))) ys)
    others-right q xs ys =
        filter-joined (λ k. not (is_eq (R (right q) k))) xs ys
        ∙ ap (λ t. joined left right t (filter (λ e. not (is_eq (R (right q) (right e.0)))) ys))
        (filter_same _ _ (λ (e : A × X). ap (λ o. not (is_eq o)) (back e.0 q)) xs ∙ filter_all xs)

-- the words of std's map for these
pub insert-put : {A X : Type 0} (R : A → A → Ordering) (k : A) (v : X) (es : List (A × X))
    → insert_entry R es k v ≡ put R k v es
insert-put R k v [] = refl
insert-put R k v (e ∷ es) =
    elim (R k e.0)
    as (λ o. match_ordering o ((k, v) ∷ e ∷ es) ((e.0, v) ∷ es) (e ∷ insert_entry R es k v)
    ≡ by_order o ((k, v) ∷ e ∷ es) ((e.0, v) ∷ es) (e ∷ put R k v es)) [
      | Less ↦ refl
      | Equal ↦ refl
      | Greater ↦ ap (λ t. e ∷ t) (insert-put R k v es)
    ]

-- where no later key ties, taking the first one out leaves all others
pub remove-others : {A X : Type 0} {R : A → A → Ordering} → IsTotalOrder R → (q : A) (es : List (A × X))
    → is_sorted R es ≡ true → remove_entry (λ k. is_eq (R q k)) es ≡ filter (λ e. not (is_eq (R q e.0))) es
remove-others o q [] h = refl
remove-others {A} {X} {R} o q (e ∷ es) h =
    elim (R q e.0)
    as (λ r. R q e.0 ≡ r
    → cond (is_eq r) es (e ∷ remove_entry (λ k. is_eq (R q k)) es)
    ≡ cond (not (is_eq r)) (e ∷ filter (λ d. not (is_eq (R q d.0))) es)
    (filter (λ d. not (is_eq (R q d.0))) es)) [
      | Less ↦ λ is. ap (λ t. e ∷ t) (remove-others o q es (tail_sorted R e es h))
      | Equal ↦ λ is. sym (kept es (head_below R e es h) is)
      | Greater ↦ λ is. ap (λ t. e ∷ t) (remove-others o q es (tail_sorted R e es h))
    ] refl
  where
    kept : (ds : List (A × X)) → AllByRecursion (λ d. R e.0 d.0 ≡ Less) ds → R q e.0 ≡ Equal
        → filter (λ d. not (is_eq (R q d.0))) ds ≡ ds
    kept [] below is = refl
    kept (d ∷ ds) below is = rw (o.congr q e.0 d.0 is ∙ below.0) (ap (λ t. d ∷ t) (kept ds below.1 is))
