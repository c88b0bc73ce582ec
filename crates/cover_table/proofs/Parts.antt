-- An ascending list in two parts, where one key comes between them: the entry of that key written and taken out.
use Rattle.std.proofs.Common.{◌≡◌, Bool, true, not, List, [], ◌∷◌, ◌++◌, refl, ap, ◌∙◌}
use Rattle.std.specs.declared.cmp.Ordering.{Ordering}
use Rattle.std.specs.declared.cmp.Ordering.TheVariants.{Less, Equal, Greater}
use Rattle.std.specs.Cmp.{IsTotalOrder}
use Rattle.std.specs.FinMap.{is_sorted}
use Rattle.std.specs.FinMap.Entries.{put}
use Rattle.std.specs.List.{AllByRecursion, filter}
use Rattle.std.specs.Ordering.{eq_by_cmp, ordering_reverse}
use Rattle.prefix_map.proofs.Sorted.{head_below, tail_sorted}

-- what holds of each of a list holds of each by another word
pub all_by : {A : Type 0} (P Q : A → Type 0) → ((x : A) → P x → Q x) → (xs : List A) → AllByRecursion P xs
    → AllByRecursion Q xs
all_by P Q turn [] h = tt
all_by P Q turn (x ∷ xs) h = (turn x h.0, all_by P Q turn xs h.1)

turned : {K : Type 0} {R : K → K → Ordering} (o : IsTotalOrder R) (k x : K) → R x k ≡ Less → R k x ≡ Greater
turned o k x before = o.antisymm k x ∙ ap ordering_reverse before

module _ {K X : Type 0} {R : K → K → Ordering} (o : IsTotalOrder R) (k : K) where
  -- the entry is not of the key
  abbrev pub is_other : K × X → Bool
  is_other e = not (eq_by_cmp R k e.0)

  pub put_front : (v : X) (front back : List (K × X)) → AllByRecursion (λ e. R e.0 k ≡ Less) front
      → put R k v (front ++ back) ≡ front ++ put R k v back
  put_front v [] back h = refl
  put_front v (e ∷ front) back h = rw (turned o k e.0 h.0) (ap (λ t. e ∷ t) (put_front v front back h.1))

  pub put_back : (v : X) (back : List (K × X)) → AllByRecursion (λ e. R k e.0 ≡ Less) back
      → put R k v back ≡ (k, v) ∷ back
  put_back v [] h = refl
  put_back v (e ∷ back) h = rw h.0 refl

  pub put_over : (v : X) (e : K × X) (back : List (K × X)) → R k e.0 ≡ Equal → put R k v (e ∷ back) ≡ (e.0, v) ∷ back
  put_over v e back tied = rw tied refl

  pub rid_front : (front back : List (K × X)) → AllByRecursion (λ e. R e.0 k ≡ Less) front
      → filter is_other (front ++ back) ≡ front ++ filter is_other back
  rid_front [] back h = refl
  rid_front (e ∷ front) back h = rw (turned o k e.0 h.0) (ap (λ t. e ∷ t) (rid_front front back h.1))

  pub rid_back : (back : List (K × X)) → AllByRecursion (λ e. R k e.0 ≡ Less) back → filter is_other back ≡ back
  rid_back [] h = refl
  rid_back (e ∷ back) h = rw h.0 (ap (λ t. e ∷ t) (rid_back back h.1))

  pub rid_over : (e : K × X) (back : List (K × X)) → R k e.0 ≡ Equal → filter is_other (e ∷ back) ≡ filter is_other back
  rid_over e back tied = rw tied refl

  -- all entries of an ascending list come behind the key where the first does
  pub behind_first : (e : K × X) (back : List (K × X)) → is_sorted R (e ∷ back) ≡ true → R k e.0 ≡ Less
      → AllByRecursion (λ d. R k d.0 ≡ Less) (e ∷ back)
  behind_first e back sorted before = (
    before,
    all_by (λ d. R e.0 d.0 ≡ Less) (λ d. R k d.0 ≡ Less) (λ d less. o.trans k e.0 d.0 before less) back
        (head_below R e back sorted),
  )

  -- and those behind the first where that is of the key
  pub behind_tied : (e : K × X) (back : List (K × X)) → is_sorted R (e ∷ back) ≡ true → R k e.0 ≡ Equal
      → AllByRecursion (λ d. R k d.0 ≡ Less) back
  behind_tied e back sorted tied =
      all_by (λ d. R e.0 d.0 ≡ Less) (λ d. R k d.0 ≡ Less) (λ d less. o.congr k e.0 d.0 tied ∙ less) back
      (head_below R e back sorted)

-- the second part of an ascending list ascends
pub sorted_back : {K X : Type 0} (R : K → K → Ordering) (front back : List (K × X)) → is_sorted R (front ++ back) ≡ true
    → is_sorted R back ≡ true
sorted_back R [] back h = h
sorted_back R (e ∷ front) back h = sorted_back R front back (tail_sorted R e (front ++ back) h)
