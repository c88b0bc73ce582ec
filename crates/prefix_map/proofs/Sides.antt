-- Two lists side by side: what is found at a prefix, and that the prefixes ascend.
use Rattle.std.proofs.Common.{◌≡◌, Bool, true, false, cond, T, List, [], ◌∷◌, ◌++◌, map, refl, sym, ap, subst}
use Rattle.std.proofs.Common.{◌∙◌, ◌↔◌, Option, Some, None}
use Rattle.std.specs.declared.cmp.Ordering.{Ordering}
use Rattle.std.specs.declared.cmp.Ordering.TheVariants.{Less, Equal, Greater}
use Rattle.std.specs.Ordering.{is_eq, is_gt, is_lt, eq_by_cmp, ordering_reverse}
use Rattle.std.specs.Cmp.{alike_right}
use Rattle.std.specs.List.{AllByRecursion, filter}
use Rattle.std.specs.FinMap.{entries, find, get, get-entries, is_sorted}
use Rattle.std.specs.FinMap.Entries.{below_all, find-where_key, find_tied, is_sorted-where_key}
use Rattle.urpf_base.specs.Address.{Block}
use Rattle.urpf_base.specs.Lists.{Has}
use Rattle.urpf_base.specs.Order.{prefix_order}
use Rattle.prefix_map.specs.Beside.{beside, either, right_alone}
use Rattle.prefix_map.specs.Mapped.{Mapped}
use Rattle.prefix_map.specs.Order.{IsAscending}
use Rattle.prefix_map.proofs.Held.{ascends}
use Rattle.prefix_map.proofs.Merge.{AllAfter, all_before, none_found}
use Rattle.prefix_map.proofs.Order.{prefix_total, prefix_ties}
use Rattle.prefix_map.proofs.Seen.{holds, entries_ascend}
use Rattle.prefix_map.proofs.Sorted.{head_below, tail_sorted, pair_found, only_pair}

abbrev or_else : {X : Type 0} → Option X → Option X → Option X
or_else None r = r
or_else (Some x) r = Some x

or_none : {X : Type 0} (r : Option X) → or_else r None ≡ r
or_none None = refl
or_none (Some x) = refl

find-append : {X : Type 0} (p : Block) (xs ys : List (Block × X))
    → find prefix_order p (xs ++ ys) ≡ or_else (find prefix_order p xs) (find prefix_order p ys)
find-append p [] ys = refl
find-append p (x ∷ xs) ys =
    elim (eq_by_cmp prefix_order p x.0)
    as (λ b. cond b (Some x.1) (find prefix_order p (xs ++ ys))
    ≡ or_else (cond b (Some x.1) (find prefix_order p xs)) (find prefix_order p ys)) [
      | true ↦ refl
      | false ↦ find-append p xs ys
    ]

find-alone : {V W : Type 0} (p : Block) (ys : List (Block × W))
    → find prefix_order p (right_alone {V = V} ys) ≡ either {V = V} None (find prefix_order p ys)
find-alone p [] = refl
find-alone {V} p (y ∷ ys) =
    elim (eq_by_cmp prefix_order p y.0)
    as (λ b. cond b (Some (None, Some y.1)) (find prefix_order p (right_alone {V = V} ys))
    ≡ either {V = V} None (cond b (Some y.1) (find prefix_order p ys))) [
      | true ↦ refl
      | false ↦ find-alone p ys
    ]

-- a filter by how the prefix of x compares keeps what is found, or loses it
find-part : {X : Type 0} (test : Ordering → Bool) (x p : Block) (es : List (Block × X))
    → find prefix_order p (filter (λ e. test (prefix_order x e.0)) es)
    ≡ cond (test (prefix_order x p)) (find prefix_order p es) None
find-part test x p es =
    find-where_key prefix_order (λ k. test (prefix_order x k)) p
    (λ z t. ap test (sym (alike_right prefix_total p z x t))) es

either_none : {V W : Type 0} (r : Option W) → or_else (either {V = V} None r) (either None None) ≡ either None r
either_none None = refl
either_none (Some w) = refl

-- where p stands before, at or behind the first of the left
at_first : {V W : Type 0} (r : Ordering) (x : V) (found_x : Option V) (found_y there : Option W)
    → (r ≡ Less → found_x ≡ None) → (r ≡ Equal → there ≡ found_y)
    → or_else (either None (cond (is_gt (ordering_reverse r)) found_y None))
    (cond (is_eq r) (Some (Some x, there)) (either found_x (cond (is_lt (ordering_reverse r)) found_y None)))
    ≡ either (cond (is_eq r) (Some x) found_x) found_y
at_first Less x found_x found_y there before tied = rw (before refl) (either_none found_y)
at_first Equal x found_x found_y there before tied = ap (λ w. Some (Some x, w)) (tied refl)
at_first Greater x found_x found_y there before tied = refl

sorted_part : {X : Type 0} (test : Block → Bool) (es : List (Block × X)) → is_sorted prefix_order es ≡ true
    → is_sorted prefix_order (filter (λ e. test e.0) es) ≡ true
sorted_part test es h = holds _ (is_sorted-where_key prefix_order test es (subst T (sym h) tt))

module _ {V W : Type 0} where
  -- what is found in both side by side is what is found in either
  pub find-beside : (p : Block) (xs : List (Block × V)) (ys : List (Block × W)) → is_sorted prefix_order xs ≡ true
      → find prefix_order p (beside xs ys) ≡ either (find prefix_order p xs) (find prefix_order p ys)
  find-beside p [] ys h = find-alone p ys
  find-beside p (x ∷ xs) ys h =
      let before : List (Block × W) = filter (λ y. is_gt (prefix_order x.0 y.0)) ys in
      let behind : List (Block × W) = filter (λ y. is_lt (prefix_order x.0 y.0)) ys in
      let turned : prefix_order x.0 p ≡ ordering_reverse (prefix_order p x.0) = prefix_total.antisymm x.0 p in
      let there : Option W = find prefix_order x.0 ys in
      find-append p (right_alone before) ((x.0, (Some x.1, there)) ∷ beside xs behind)
      ∙ (λ i. or_else (find-alone {V = V} p before i)
      (cond (eq_by_cmp prefix_order p x.0) (Some (Some x.1, there))
      (find-beside p xs behind (tail_sorted prefix_order x xs h) i)))
      ∙ (λ i. or_else (either {V = V} None (find-part is_gt x.0 p ys i))
      (cond (eq_by_cmp prefix_order p x.0) (Some (Some x.1, there))
      (either (find prefix_order p xs) (find-part is_lt x.0 p ys i))))
      ∙ (λ i. or_else (either {V = V} None (cond (is_gt (turned i)) (find prefix_order p ys) None))
      (cond (eq_by_cmp prefix_order p x.0) (Some (Some x.1, there))
      (either (find prefix_order p xs) (cond (is_lt (turned i)) (find prefix_order p ys) None))))
      ∙ at_first (prefix_order p x.0) x.1 (find prefix_order p xs) (find prefix_order p ys) there
      (λ less. none_found p xs (all_before p x.0 xs less (head_below prefix_order x xs h)))
      (λ tied. find_tied prefix_order prefix_total p x.0 tied ys)

all_part : {X : Type 0} (P : Block × X → Type 0) (test : Block × X → Bool) (es : List (Block × X)) → AllByRecursion P es
    → AllByRecursion P (filter test es)
all_part P test [] h = tt
all_part P test (e ∷ es) h = elim (test e) as (λ b. AllByRecursion P (cond b (e ∷ filter test es) (filter test es))) [
  | true ↦ (h.0, all_part P test es h.1)
  | false ↦ all_part P test es h.1
]

all_append : {X : Type 0} (P : X → Type 0) (xs ys : List X) → AllByRecursion P xs → AllByRecursion P ys
    → AllByRecursion P (xs ++ ys)
all_append P [] ys h k = k
all_append P (x ∷ xs) ys h k = (h.0, all_append P xs ys h.1 k)

-- what passes the test has what the test tells
all_told : {X : Type 0} (P : Block × X → Type 0) (test : Block × X → Bool) → ((e : Block × X) → test e ≡ true → P e)
    → (es : List (Block × X)) → AllByRecursion P (filter test es)
all_told P test tells [] = tt
all_told {X} P test tells (e ∷ es) =
    elim (test e) as (λ b. test e ≡ b → AllByRecursion P (cond b (e ∷ filter test es) (filter test es))) [
      | true ↦ λ is. (tells e is, all_told P test tells es)
      | false ↦ λ is. all_told P test tells es
    ] refl

below : {X : Type 0} (p : Block) (es : List (Block × X)) → AllAfter p es → below_all prefix_order p es ≡ true
below p [] h = refl
below p (e ∷ es) h = rw h.0 (below p es h.1)

sorted_cons : {X : Type 0} (e : Block × X) (es : List (Block × X)) → AllAfter e.0 es → is_sorted prefix_order es ≡ true
    → is_sorted prefix_order (e ∷ es) ≡ true
sorted_cons e es h k = rw (below e.0 es h) k

less_is : (o : Ordering) → is_lt o ≡ true → o ≡ Less
less_is Less e = refl
less_is Equal e = cc
less_is Greater e = cc

greater_is : (o : Ordering) → is_gt o ≡ true → o ≡ Greater
greater_is Less e = cc
greater_is Equal e = cc
greater_is Greater e = refl

alone_after : {W : Type 0} (V : Type 0) (p : Block) (ys : List (Block × W)) → AllAfter p ys
    → AllAfter p (right_alone {V = V} ys)
alone_after V p [] h = tt
alone_after V p (y ∷ ys) h = (h.0, alone_after V p ys h.1)

sorted_alone : {W : Type 0} (V : Type 0) (ys : List (Block × W)) → is_sorted prefix_order ys ≡ true
    → is_sorted prefix_order (right_alone {V = V} ys) ≡ true
sorted_alone V [] h = refl
sorted_alone V (y ∷ ys) h =
    sorted_cons (y.0, (None, Some y.1)) (right_alone {V = V} ys) (alone_after V y.0 ys (head_below prefix_order y ys h))
    (sorted_alone V ys (tail_sorted prefix_order y ys h))

module _ {V W : Type 0} where
  -- what comes before both comes before both side by side
  beside_after : (p : Block) (xs : List (Block × V)) (ys : List (Block × W)) → AllAfter p xs → AllAfter p ys
      → AllAfter p (beside xs ys)
  beside_after p [] ys h k = alone_after V p ys k
  beside_after p (x ∷ xs) ys h k =
      all_append (λ e. prefix_order p e.0 ≡ Less) (right_alone (filter (λ y. is_gt (prefix_order x.0 y.0)) ys))
      ((x.0, (Some x.1, find prefix_order x.0 ys)) ∷ beside xs (filter (λ y. is_lt (prefix_order x.0 y.0)) ys))
      (alone_after V p _ (all_part (λ e. prefix_order p e.0 ≡ Less) (λ y. is_gt (prefix_order x.0 y.0)) ys k)) (
        h.0,
        beside_after p xs _ h.1
            (all_part (λ e. prefix_order p e.0 ≡ Less) (λ y. is_lt (prefix_order x.0 y.0)) ys k),
      )

  -- pairs in order, all before x, and then x and what comes after it
  sorted_onto : (ys : List (Block × W)) (x : Block × (Option V × Option W))
      (rest : List (Block × (Option V × Option W))) → is_sorted prefix_order ys ≡ true
      → AllByRecursion (λ y. prefix_order y.0 x.0 ≡ Less) ys
      → AllAfter x.0 rest → is_sorted prefix_order rest ≡ true
      → is_sorted prefix_order (right_alone ys ++ x ∷ rest) ≡ true
  sorted_onto [] x rest h before after k = sorted_cons x rest after k
  sorted_onto (y ∷ ys) x rest h before after k =
      sorted_cons (y.0, (None, Some y.1)) (right_alone ys ++ x ∷ rest)
      (all_append (λ e. prefix_order y.0 e.0 ≡ Less) (right_alone ys) (x ∷ rest)
      (alone_after V y.0 ys (head_below prefix_order y ys h)) (before.0, all_before y.0 x.0 rest before.0 after))
      (sorted_onto ys x rest (tail_sorted prefix_order y ys h) before.1 after k)

  pub sorted-beside : (xs : List (Block × V)) (ys : List (Block × W)) → is_sorted prefix_order xs ≡ true
      → is_sorted prefix_order ys ≡ true → is_sorted prefix_order (beside xs ys) ≡ true
  sorted-beside [] ys h k = sorted_alone V ys k
  sorted-beside (x ∷ xs) ys h k =
      sorted_onto (filter (λ y. is_gt (prefix_order x.0 y.0)) ys) (x.0, (Some x.1, find prefix_order x.0 ys))
      (beside xs (filter (λ y. is_lt (prefix_order x.0 y.0)) ys))
      (sorted_part (λ q. is_gt (prefix_order x.0 q)) ys k)
      (all_told (λ y. prefix_order y.0 x.0 ≡ Less) (λ y. is_gt (prefix_order x.0 y.0))
      (λ y is. prefix_total.antisymm y.0 x.0 ∙ ap ordering_reverse (greater_is _ is)) ys)
      (beside_after x.0 xs _ (head_below prefix_order x xs h)
      (all_told (λ y. prefix_order x.0 y.0 ≡ Less) (λ y. is_lt (prefix_order x.0 y.0)) (λ y is. less_is _ is) ys))
      (sorted-beside xs _ (tail_sorted prefix_order x xs h) (sorted_part (λ q. is_lt (prefix_order x.0 q)) ys k))

  maps_sorted : (m : Mapped V) (n : Mapped W) → is_sorted prefix_order (beside (entries m) (entries n)) ≡ true
  maps_sorted m n = sorted-beside (entries m) (entries n) (entries_ascend m) (entries_ascend n)

  maps_find : (m : Mapped V) (n : Mapped W) (p : Block)
      → find prefix_order p (beside (entries m) (entries n)) ≡ either (get m p) (get n p)
  maps_find m n p =
      find-beside p (entries m) (entries n) (entries_ascend m)
      ∙ (λ i. either (sym (get-entries m p) i) (sym (get-entries n p) i))

  pub beside_ascends : (m : Mapped V) (n : Mapped W) → IsAscending (map (λ e. e.0) (beside (entries m) (entries n)))
  beside_ascends m n = ascends (beside (entries m) (entries n)) (maps_sorted m n)

  pub beside_pairs : (m : Mapped V) (n : Mapped W) (p : Block) (v : Option V) (w : Option W)
      → Has (beside (entries m) (entries n)) (p, (v, w)) ↔ (either (get m p) (get n p) ≡ Some (v, w))
  beside_pairs m n p v w = (
    λ has. sym (maps_find m n p)
        ∙ pair_found prefix_total (beside (entries m) (entries n)) p (v, w) (maps_sorted m n) has,
    λ is. only_pair prefix_total prefix_ties (beside (entries m) (entries n)) p (v, w) (maps_find m n p ∙ is),
  )
