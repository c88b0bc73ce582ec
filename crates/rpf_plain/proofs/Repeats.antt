-- How often rows stand in the list that a map of rows stands for.
use Rattle.std.proofs.Common.{◌≡◌, inl, inr, ℕ, zero, suc, ◌+◌, ◌<◌, Bool, true, false, cond, not, List, [], ◌∷◌}
use Rattle.std.proofs.Common.{◌++◌, refl, sym, ap, subst, ◌∙◌, Option, Some, None, arith, add-one}
use Rattle.std.specs.declared.cmp.Ordering.{Ordering}
use Rattle.std.specs.declared.cmp.Ordering.TheVariants.{Less}
use Rattle.std.specs.Ordering.{eq_by_cmp, is_eq}
use Rattle.std.specs.Cmp.{alike_right, eq_by_cmp_equiv}
use Rattle.std.specs.FinMap.{find, is_sorted, put}
use Rattle.std.specs.FinMap.Entries.{find-put, find-where_key}
use Rattle.std.specs.List.{AllByRecursion, filter}
use Rattle.std.specs.List.Sorted.{IsStrictlySortedBy}
use Rattle.std.specs.Map.{keys_of, lookup}
use Rattle.std.proofs.lemmas.Bool.{cases_Bool}
use Rattle.std.proofs.lemmas.Map.Keys.{sorted_head, sorted_tail}
use Rattle.urpf_base.specs.Lists.{Has}
use Rattle.prefix_map.proofs.Sorted.{find-lookup, head_below, tail_sorted}
use Rattle.rpf_plain.specs.declared.rows.Row.{Row}
use Rattle.rpf_plain.specs.Kept.{again, all_rows, how_often}
use Rattle.rpf_plain.specs.Rows.{row_order, repeats, AreSameRows}
use Rattle.rpf_plain.proofs.Orders.{row_total, same_from_tie, tie}

pub repeats-append : (xs ys : List Row) (r : Row) → repeats (xs ++ ys) r ≡ repeats xs r + repeats ys r
repeats-append [] ys r = omega arith
repeats-append (x ∷ xs) ys r = let more = repeats-append xs ys r in omega arith

repeats-again : (n : ℕ) (r q : Row) → repeats (again n r) q ≡ cond (is_eq (row_order r q)) (n + 1) 0
repeats-again zero r q =
    elim (cases_Bool (is_eq (row_order r q))) [ inl e ↦ rw e refl | inr e ↦ rw e refl ]
repeats-again (suc n) r q =
    let more = repeats-again n r q in
    elim (cases_Bool (is_eq (row_order r q))) [
      | inl e ↦ let here : repeats (again n r) q ≡ n + 1 = rw e at more in rw e (omega arith)
      | inr e ↦ let here : repeats (again n r) q ≡ 0 = rw e at more in rw e (omega arith)
    ]

abbrev at : Row → Row → Bool
at q k = is_eq (row_order q k)

flip : (x y : Row) → is_eq (row_order x y) ≡ is_eq (row_order y x)
flip x y = (eq_by_cmp_equiv row_total).symm x y

none_later : (q k : Row) (es : List (Row × ℕ)) → AllByRecursion (λ y. row_order k y ≡ Less) (keys_of es)
    → is_eq (row_order k q) ≡ true → lookup (at q) es ≡ None
none_later q k [] below e = refl
none_later q k (d ∷ es) below e =
    let apart : is_eq (row_order q d.0) ≡ false =
    subst (λ z. is_eq (row_order z d.0) ≡ false) (same_from_tie k q e) (ap is_eq below.0) in
    rw apart (none_later q k es below.1 e)

-- a row stands in the list as often as the map says
pub repeats-all_rows : (es : List (Row × ℕ)) (q : Row) → IsStrictlySortedBy row_order (keys_of es)
    → repeats (all_rows es) q ≡ how_often (lookup (at q) es)
repeats-all_rows [] q sorted = refl
repeats-all_rows (e ∷ es) q sorted =
    let parts =
    repeats-append (again e.1 e.0) (all_rows es) q ∙ ap (λ n. n + repeats (all_rows es) q) (repeats-again e.1 e.0 q) in
    let later = repeats-all_rows es q (sorted_tail row_order e.0 (keys_of es) sorted) in
    elim (cases_Bool (is_eq (row_order e.0 q))) [
      | inl same ↦
          let none : lookup (at q) es ≡ None =
          none_later q e.0 es (sorted_head row_order e.0 (keys_of es) sorted) same in
          let rest : repeats (all_rows es) q ≡ 0 = later ∙ ap how_often none in
          let sum : repeats (all_rows (e ∷ es)) q ≡ e.1 + 1 + repeats (all_rows es) q = rw same at parts in
          rw (flip q e.0, same) (omega arith)
      | inr other ↦
          let sum : repeats (all_rows (e ∷ es)) q ≡ 0 + repeats (all_rows es) q = rw other at parts in
          rw (flip q e.0, other) (omega arith)
    ]

-- a row of the list is there once or more
pub repeats-some : (xs : List Row) (r : Row) → Has xs r → 0 < repeats xs r
repeats-some [] r none = elim none [ ]
repeats-some (x ∷ xs) r (inl same) =
    let e : is_eq (row_order x r) ≡ true = subst (λ z. is_eq (row_order z r) ≡ true) same (tie r) in rw e (omega arith)
repeats-some (x ∷ xs) r (inr later) = let more = repeats-some xs r later in omega arith

-- what a look-up by the comparison of the type finds
abbrev pub found : (Row → Row → Ordering) → List (Row × ℕ) → Row → Option ℕ
found R es q = lookup (λ k. is_eq (R q k)) es

-- the entries have this at a row now, and at all others what they had
abbrev pub SetAt : (Row → Row → Ordering) → Row → Option ℕ → List (Row × ℕ) → List (Row × ℕ) → Type 0
SetAt R row value es fs = (q : Row) → found R fs q ≡ cond (is_eq (R row q)) value (found R es q)

abbrev pub AreSorted : (Row → Row → Ordering) → List (Row × ℕ) → Type 0
AreSorted R es = IsStrictlySortedBy R (keys_of es)

repeats-set : (row q : Row) (value : Option ℕ) (es fs : List (Row × ℕ)) → AreSorted row_order es
    → AreSorted row_order fs
    → SetAt row_order row value es fs
    → repeats (all_rows fs) q ≡ cond (is_eq (row_order row q)) (how_often value) (repeats (all_rows es) q)
repeats-set row q value es fs old new is =
    elim (cases_Bool (is_eq (row_order row q))) [
      | inl e ↦ let at_q = rw e at (is q) in rw e (repeats-all_rows fs q new ∙ ap how_often at_q)
      | inr e ↦
          let at_q = rw e at (is q) in
          rw e (repeats-all_rows fs q new ∙ ap how_often at_q ∙ sym (repeats-all_rows es q old))
    ]

-- where an entry says one more the list has the row once more
pub once_more : (row : Row) (a b : Option ℕ) (es fs : List (Row × ℕ)) → AreSorted row_order es → AreSorted row_order fs
    → SetAt row_order row b es fs → found row_order es row ≡ a → how_often b ≡ how_often a + 1
    → AreSameRows (all_rows fs) (row ∷ all_rows es)
once_more row a b es fs old new is was more q =
    let set = repeats-set row q b es fs old new is in
    elim (cases_Bool (is_eq (row_order row q))) [
      | inl e ↦
          let before : repeats (all_rows es) q ≡ how_often a =
          subst (λ z. repeats (all_rows es) z ≡ how_often a) (same_from_tie row q e)
          (repeats-all_rows es row old ∙ ap how_often was) in
          let after : repeats (all_rows fs) q ≡ how_often b = rw e at set in
          rw e (omega arith)
      | inr e ↦ let after : repeats (all_rows fs) q ≡ repeats (all_rows es) q = rw e at set in rw e (omega arith)
    ]

-- and where it says one less, once less
pub once_less : (row : Row) (a b : Option ℕ) (es fs : List (Row × ℕ)) → AreSorted row_order es → AreSorted row_order fs
    → SetAt row_order row b es fs → found row_order es row ≡ a → how_often b + 1 ≡ how_often a
    → AreSameRows (all_rows es) (row ∷ all_rows fs)
once_less row a b es fs old new is was less q =
    let set = repeats-set row q b es fs old new is in
    elim (cases_Bool (is_eq (row_order row q))) [
      | inl e ↦
          let before : repeats (all_rows es) q ≡ how_often a =
          subst (λ z. repeats (all_rows es) z ≡ how_often a) (same_from_tie row q e)
          (repeats-all_rows es row old ∙ ap how_often was) in
          let after : repeats (all_rows fs) q ≡ how_often b = rw e at set in
          rw e (omega arith)
      | inr e ↦ let after : repeats (all_rows fs) q ≡ repeats (all_rows es) q = rw e at set in rw e (omega arith)
    ]

ordered_keys : (P : Row → Type 0) (es : List (Row × ℕ)) → AllByRecursion (λ e. P e.0) es → AllByRecursion P (keys_of es)
ordered_keys P [] h = tt
ordered_keys P (e ∷ es) h = (h.0, ordered_keys P es h.1)

-- entries that pass the test of a finite map have keys that ascend
pub ordered : (es : List (Row × ℕ)) → is_sorted row_order es ≡ true → AreSorted row_order es
unfolding IsStrictlySortedBy
ordered [] h = tt
ordered (e ∷ es) h = (
  ordered_keys (λ k. row_order e.0 k ≡ Less) es (head_below row_order e es h),
  ordered es (tail_sorted row_order e es h),
)

-- an entry that is put in is at its row, and one that is dropped at none
set_by_put : (row : Row) (n : ℕ) (es : List (Row × ℕ)) → SetAt row_order row (Some n) es (put row_order row n es)
set_by_put row n es q =
    sym (find-lookup row_order q (put row_order row n es)) ∙ find-put row_order row_total q row n es
    ∙ ap (λ b. cond b (Some n) (find row_order q es)) (flip q row)
    ∙ ap (λ o. cond (is_eq (row_order row q)) (Some n) o) (find-lookup row_order q es)

-- the entries of all other rows
abbrev pub others : Row → List (Row × ℕ) → List (Row × ℕ)
others row es = filter (λ e. not (eq_by_cmp row_order row e.0)) es

set_by_drop : (row : Row) (es : List (Row × ℕ)) → SetAt row_order row None es (others row es)
set_by_drop row es q =
    sym (find-lookup row_order q (others row es))
    ∙ find-where_key row_order (λ k. not (is_eq (row_order row k))) q
    (λ x t. ap (λ r. not (is_eq r)) (sym (alike_right row_total q x row t))) es
    ∙ turned (is_eq (row_order row q)) (find row_order q es) None
    ∙ ap (λ o. cond (is_eq (row_order row q)) None o) (find-lookup row_order q es)
  where
    turned : {A : Type 0} (b : Bool) (x y : A) → cond (not b) x y ≡ cond b y x
    turned true x y = refl
    turned false x y = refl

-- a row is added where its entry is put in with one more
pub adds : (row : Row) (es fs : List (Row × ℕ)) → is_sorted row_order es ≡ true → is_sorted row_order fs ≡ true
    → fs ≡ put row_order row (how_often (found row_order es row)) es → AreSameRows (all_rows fs) (row ∷ all_rows es)
adds row es fs old new is =
    let n = how_often (found row_order es row) in
    once_more row (found row_order es row) (Some n) es fs (ordered es old) (ordered fs new)
    (subst (SetAt row_order row (Some n) es) (sym is) (set_by_put row n es)) refl refl

-- a row stands in the list as often as its entry says
pub counted : (row : Row) (es : List (Row × ℕ)) → is_sorted row_order es ≡ true
    → repeats (all_rows es) row ≡ how_often (found row_order es row)
counted row es sorted = repeats-all_rows es row (ordered es sorted)

-- a row of the list is there once or more
there : (row : Row) (es : List (Row × ℕ)) → AreSorted row_order es → Has (all_rows es) row
    → 0 < how_often (found row_order es row)
there row es sorted has =
    let is = repeats-all_rows es row sorted in
    let some = repeats-some (all_rows es) row has in
    omega arith

-- a row is taken away where its entry is dropped, or put in with one less
pub takes : (row : Row) (es fs : List (Row × ℕ)) → is_sorted row_order es ≡ true → is_sorted row_order fs ≡ true
    → Has (all_rows es) row → (found row_order es row ≡ Some 0 → fs ≡ others row es)
    → ((n : ℕ) → found row_order es row ≡ Some (n + 1) → fs ≡ put row_order row n es)
    → AreSameRows (all_rows es) (row ∷ all_rows fs)
takes row es fs old new has last fewer =
    by (found row_order es row) refl (there row es (ordered es old) has)
  where
    by : (o : Option ℕ) → found row_order es row ≡ o → 0 < how_often o → AreSameRows (all_rows es) (row ∷ all_rows fs)
    by None is some = absurd (omega arith)
    by (Some zero) is some =
        once_less row (Some 0) None es fs (ordered es old) (ordered fs new)
        (subst (SetAt row_order row None es) (sym (last is)) (set_by_drop row es)) is refl
    by (Some (suc n)) is some =
        let one_less : fs ≡ put row_order row n es = fewer n (is ∙ ap (λ m. Some m) (sym (add-one n))) in
        once_less row (Some (suc n)) (Some n) es fs (ordered es old) (ordered fs new)
        (subst (SetAt row_order row (Some n) es) (sym one_less) (set_by_put row n es)) is (omega arith)
