-- Lists of pairs whose keys ascend: what a look-up finds, and what comes after a key.
use Rattle.std.proofs.Common.{◌≡◌, ◌⊎◌, inl, inr, Bool, true, false, cond, ◌&&◌, List, [], ◌∷◌, map, refl, sym, ap}
use Rattle.std.proofs.Common.{subst, ◌∙◌, Option, Some, None}
use Rattle.std.specs.declared.cmp.Ordering.{Ordering}
use Rattle.std.specs.declared.cmp.Ordering.TheVariants.{Less, Equal, Greater}
use Rattle.std.specs.Ordering.{is_eq, is_lt, ordering_reverse}
use Rattle.std.specs.Cmp.{IsTotalOrder, tied_itself}
use Rattle.std.specs.Option.{IsSome}
use Rattle.std.specs.List.{AllByRecursion, filter}
use Rattle.std.specs.List.Sorted.{IsStrictlySortedBy}
use Rattle.std.specs.Map.{keys_of, lookup}
use Rattle.std.specs.FinMap.{IsAntisymmetric, find, is_sorted}
use Rattle.std.specs.FinMap.Entries.{below_all}
use Rattle.std.proofs.lemmas.Map.Keys.{sorted_head, sorted_tail}
use Rattle.urpf_base.specs.Lists.{Has, AreDistinct}

front : (a b : Bool) → (a && b) ≡ true → a ≡ true
front true b e = refl
front false b e = e

back : (a b : Bool) → (a && b) ≡ true → b ≡ true
back true b e = e
back false b e = cc

less : (o : Ordering) → is_lt o ≡ true → o ≡ Less
less Less e = refl
less Equal e = cc
less Greater e = cc

module _ {K X : Type 0} (R : K → K → Ordering) where
  below : (x : K) (es : List (K × X)) → AllByRecursion (λ y. R x y ≡ Less) (keys_of es) → below_all R x es ≡ true
  below x [] h = refl
  below x (e ∷ es) h = rw h.0 (below x es h.1)

  -- keys that ascend pass the test of a finite map
  pub sorted : (es : List (K × X)) → IsStrictlySortedBy R (keys_of es) → is_sorted R es ≡ true
  sorted [] h = refl
  sorted (e ∷ es) h =
      rw (below e.0 es (sorted_head R e.0 (keys_of es) h)) (sorted es (sorted_tail R e.0 (keys_of es) h))

  pub find-lookup : (q : K) (es : List (K × X)) → find R q es ≡ lookup (λ k. is_eq (R q k)) es
  find-lookup q [] = refl
  find-lookup q (e ∷ es) = ap (cond (is_eq (R q e.0)) (Some e.1)) (find-lookup q es)

  all_below : (x : K) (es : List (K × X)) → below_all R x es ≡ true → AllByRecursion (λ e. R x e.0 ≡ Less) es
  all_below x [] h = tt
  all_below x (e ∷ es) h = (less _ (front _ (below_all R x es) h), all_below x es (back (is_lt (R x e.0)) _ h))

  pub head_below : (e : K × X) (es : List (K × X)) → is_sorted R (e ∷ es) ≡ true
      → AllByRecursion (λ d. R e.0 d.0 ≡ Less) es
  head_below e es h = all_below e.0 es (front _ (is_sorted R es) h)

  pub tail_sorted : (e : K × X) (es : List (K × X)) → is_sorted R (e ∷ es) ≡ true → is_sorted R es ≡ true
  tail_sorted e es h = back (below_all R e.0 es) _ h

pub all_at : {K X : Type 0} (P : K → Type 0) (es : List (K × X)) (k : K) → AllByRecursion (λ e. P e.0) es
    → Has (map (λ e. e.0) es) k → P k
all_at P [] k h in_none = elim in_none [ ]
all_at P (e ∷ es) k h (inl same) = subst P (sym same) h.0
all_at P (e ∷ es) k h (inr later) = all_at P es k h.1 later

not_below : {K : Type 0} {R : K → K → Ordering} (o : IsTotalOrder R) (x : K) → ¬ (R x x ≡ Less)
not_below {R = R} o x e = let tied : R x x ≡ Equal = tied_itself o x in cc

some_first : {X : Type 0} (b : Bool) (x : X) (r : Option X) → b ≡ true → IsSome (cond b (Some x) r)
some_first true x r e = refl
some_first false x r e = cc

some_later : {X : Type 0} (b : Bool) (x : X) (r : Option X) → IsSome r → IsSome (cond b (Some x) r)
some_later true x r h = refl
some_later false x r h = h

no_key : (X : Type 0) {G : Type 0} → IsSome {T = X} None → G
no_key X h = cc

module _ {K X : Type 0} {R : K → K → Ordering} (o : IsTotalOrder R) where
  -- a list whose keys ascend has each key once
  pub distinct : (es : List (K × X)) → is_sorted R es ≡ true → AreDistinct (map (λ e. e.0) es)
  distinct [] h = tt
  distinct (e ∷ es) h = (
    λ again. not_below o e.0 (all_at (λ k. R e.0 k ≡ Less) es e.0 (head_below R e es h) again),
    distinct es (tail_sorted R e es h),
  )

  -- a key of the list is found
  pub found : (es : List (K × X)) (k : K) → Has (map (λ e. e.0) es) k → IsSome (find R k es)
  found [] k in_none = elim in_none [ ]
  found (e ∷ es) k (inl same) = some_first _ _ _ (ap is_eq (subst (λ z. R k z ≡ Equal) same (tied_itself o k)))
  found (e ∷ es) k (inr later) = some_later _ _ _ (found es k later)

  found_by : IsAntisymmetric R → (e : K × X) (es : List (K × X)) (k : K) (r : Ordering) → R k e.0 ≡ r
      → (IsSome (find R k es)
      → Has (map (λ d. d.0) es) k) → IsSome (cond (is_eq r) (Some e.1) (find R k es))
      → (k ≡ e.0) ⊎ Has (map (λ d. d.0) es) k
  found_by ties e es k Less is later h = inr (later h)
  found_by ties e es k Equal is later h = inl (ties k e.0 is)
  found_by ties e es k Greater is later h = inr (later h)

  -- what is found is a key of the list
  pub only_found : IsAntisymmetric R → (es : List (K × X)) (k : K) → IsSome (find R k es) → Has (map (λ e. e.0) es) k
  only_found ties [] k h = no_key X h
  only_found ties (e ∷ es) k h = found_by ties e es k (R k e.0) refl (only_found ties es k) h

  -- all keys of a list come after x, so the filter for those keeps it
  pub filter_all : (x : K) (es : List (K × X)) → AllByRecursion (λ e. R x e.0 ≡ Less) es
      → filter (λ e. is_lt (R x e.0)) es ≡ es
  filter_all x [] h = refl
  filter_all x (e ∷ es) h = rw h.0 (ap (λ t. e ∷ t) (filter_all x es h.1))

has_key : {K X : Type 0} (es : List (K × X)) (k : K) (v : X) → Has es (k, v) → Has (map (λ e. e.0) es) k
has_key [] k v in_none = elim in_none [ ]
has_key (e ∷ es) k v (inl same) = inl (ap (λ d. d.0) same)
has_key (e ∷ es) k v (inr later) = inr (has_key es k v later)

other_first : {X : Type 0} (b : Bool) (x : X) (r : Option X) → b ≡ false → cond b (Some x) r ≡ r
other_first true x r e = cc
other_first false x r e = refl

past : {K : Type 0} {R : K → K → Ordering} (o : IsTotalOrder R) (x y : K) → R x y ≡ Less → is_eq (R y x) ≡ false
past {R = R} o x y before = ap is_eq (o.antisymm y x) ∙ ap (λ r. is_eq (ordering_reverse r)) before

first_is : {X : Type 0} (b : Bool) (x v : X) (r : Option X) → b ≡ true → v ≡ x → cond b (Some x) r ≡ Some v
first_is true x v r e same = ap (λ w. Some w) (sym same)
first_is false x v r e same = cc

module _ {K X : Type 0} {R : K → K → Ordering} (o : IsTotalOrder R) where
  -- a pair of the list is found at its key
  pub pair_found : (es : List (K × X)) (k : K) (v : X) → is_sorted R es ≡ true → Has es (k, v) → find R k es ≡ Some v
  pair_found [] k v h in_none = elim in_none [ ]
  pair_found (e ∷ es) k v h (inl same) =
      let key : k ≡ e.0 = ap (λ d. d.0) same in
      first_is _ _ _ _ (ap is_eq (subst (λ z. R k z ≡ Equal) key (tied_itself o k))) (ap (λ d. d.1) same)
  pair_found (e ∷ es) k v h (inr later) =
      let behind : R e.0 k ≡ Less = all_at (λ z. R e.0 z ≡ Less) es k (head_below R e es h) (has_key es k v later) in
      other_first _ e.1 (find R k es) (past o e.0 k behind) ∙ pair_found es k v (tail_sorted R e es h) later

  only_pair_by : IsAntisymmetric R → (e : K × X) (es : List (K × X)) (k : K) (v : X) (r : Ordering) → R k e.0 ≡ r
      → (find R k es ≡ Some v → Has es (k, v)) → cond (is_eq r) (Some e.1) (find R k es) ≡ Some v
      → ((k, v) ≡ e) ⊎ Has es (k, v)
  only_pair_by ties e es k v Less is later h = inr (later h)
  only_pair_by ties e es k v Equal is later h = let value : v ≡ e.1 = cc in inl (λ i. (ties k e.0 is i, value i))
  only_pair_by ties e es k v Greater is later h = inr (later h)

  -- what is found at a key is a pair of the list
  pub only_pair : IsAntisymmetric R → (es : List (K × X)) (k : K) (v : X) → find R k es ≡ Some v → Has es (k, v)
  only_pair ties [] k v h = absurd cc
  only_pair ties (e ∷ es) k v h = only_pair_by ties e es k v (R k e.0) refl (only_pair ties es k v) h
