-- What stands in an ascending list of pairs once one is put in or taken out.
use Rattle.std.proofs.Common.{◌≡◌, ◌↔◌, ◌⊎◌, inl, inr, ◌+◌, Bool, true, false, ◌||◌, List, [], ◌∷◌, length, refl}
use Rattle.std.proofs.Common.{sym, ap, subst, ◌∙◌, arith}
use Rattle.std.specs.declared.cmp.Ordering.{Ordering}
use Rattle.std.specs.declared.cmp.Ordering.TheVariants.{Less, Equal, Greater}
use Rattle.std.specs.Ordering.{is_eq, match_ordering}
use Rattle.std.specs.Cmp.{tied_itself}
use Rattle.std.specs.List.{AllByRecursion, list_any}
use Rattle.std.specs.List.Sorted.{IsStrictlySortedBy}
use Rattle.std.specs.BTreeSet.{insert_key}
use Rattle.std.specs.Set.{remove_key}
use Rattle.std.proofs.lemmas.Bool.{cases_Bool}
use Rattle.urpf_base.specs.Lists.{AreDistinct, Has}
use Rattle.origin_pairs.specs.Pairs.{AreAscending, HasOneMore, Pair, pair_order}
use Rattle.origin_pairs.proofs.Orders.{pair_total, pair_ties}

-- whether two pairs are one
abbrev pub same : Pair → Pair → Bool
same a b = is_eq (pair_order a b)

is_tie : (o : Ordering) → is_eq o ≡ true → o ≡ Equal
is_tie Less e = cc
is_tie Equal e = refl
is_tie Greater e = cc

pub equal_from_same : (a b : Pair) → same a b ≡ true → a ≡ b
equal_from_same a b e = pair_ties a b (is_tie _ e)

pub same_from_equal : (a b : Pair) → a ≡ b → same a b ≡ true
same_from_equal a b e = subst (λ z. same a z ≡ true) e (ap is_eq (tied_itself pair_total a))

-- a pair that is found stands in the list
pub has_found : (p : Pair) (xs : List Pair) → list_any (same p) xs ≡ true → Has xs p
has_found p [] e = absurd cc
has_found p (x ∷ xs) e =
    elim (cases_Bool (same p x)) [
      | inl here ↦ inl (equal_from_same p x here)
      | inr other ↦ inr (has_found p xs (rw other at e))
    ]

-- and one that is not does not
pub not_found : (p : Pair) (xs : List Pair) → list_any (same p) xs ≡ false → ¬ Has xs p
not_found p [] e has = has
not_found p (x ∷ xs) e has =
    elim (cases_Bool (same p x)) [
      | inl here ↦ absurd (let found = rw here at e in cc)
      | inr other ↦ elim has [
        | inl is ↦ absurd (let tied = same_from_equal p x is in cc)
        | inr later ↦ not_found p xs (rw other at e) later
      ]
    ]

all_has : (P : Pair → Type 0) (xs : List Pair) (p : Pair) → AllByRecursion P xs → Has xs p → P p
all_has P [] p h has = absurd has
all_has P (x ∷ xs) p h (inl is) = subst P (sym is) h.0
all_has P (x ∷ xs) p h (inr later) = all_has P xs p h.1 later

-- pairs that ascend are distinct
pub distinct : (xs : List Pair) → AreAscending xs → AreDistinct xs
unfolding IsStrictlySortedBy
distinct [] h = tt
distinct (x ∷ xs) h = (
  λ again. (let below : pair_order x x ≡ Less = all_has (λ k. pair_order x k ≡ Less) xs x h.0 again in
      let tied : pair_order x x ≡ Equal = tied_itself pair_total x in cc),
  distinct xs h.1,
)

module _ (p : Pair) where
  -- what stands in the list once the pair is put in
  pub in_inserted : (xs : List Pair) (q : Pair) → Has (insert_key pair_order xs p) q ↔ ((q ≡ p) ⊎ Has xs q)
  in_inserted [] q = (λ h. h, λ h. h)
  in_inserted (x ∷ xs) q = by (pair_order p x) refl (in_inserted xs q)
    where
      by : (o : Ordering) → pair_order p x ≡ o → (Has (insert_key pair_order xs p) q ↔ ((q ≡ p) ⊎ Has xs q))
          → Has (match_ordering o (p ∷ x ∷ xs) (x ∷ xs) (x ∷ insert_key pair_order xs p)) q
          ↔ ((q ≡ p) ⊎ ((q ≡ x) ⊎ Has xs q))
      by Less is more = (λ h. h, λ h. h)
      by Equal is more =
          let one : p ≡ x = pair_ties p x is in (
            λ h. inr h,
            λ h. elim h [ inl e ↦ inl (e ∙ one) | inr there ↦ there ],
          )
      by Greater is more = (
        λ h. elim h [
          | inl e ↦ inr (inl e)
          | inr later ↦ elim (more.0 later) [ inl e ↦ inl e | inr there ↦ inr (inr there) ]
        ],
        λ h. elim h [
          | inl e ↦ inr (more.1 (inl e))
          | inr there ↦ elim there [ inl e ↦ inl e | inr later ↦ inr (more.1 (inr later)) ]
        ],
      )

  length-insert : (xs : List Pair) → list_any (same p) xs ≡ false
      → length (insert_key pair_order xs p) ≡ length xs + 1
  length-insert [] e = refl
  length-insert (x ∷ xs) e = by (pair_order p x) e (length-insert xs)
    where
      by : (o : Ordering) → (is_eq o || list_any (same p) xs) ≡ false
          → (list_any (same p) xs ≡ false → length (insert_key pair_order xs p) ≡ length xs + 1)
          → length (match_ordering o (p ∷ x ∷ xs) (x ∷ xs) (x ∷ insert_key pair_order xs p)) ≡ length (x ∷ xs) + 1
      by Less none more = omega arith
      by Equal none more = cc
      by Greater none more = let longer = more none in omega arith

  -- a pair that was not there is there once it is put in
  pub one_more : (xs : List Pair) → AreAscending xs → AreAscending (insert_key pair_order xs p)
      → list_any (same p) xs ≡ false → HasOneMore p xs (insert_key pair_order xs p)
  one_more xs old new none = record {
    fresh = not_found p xs none;
    members = in_inserted xs;
    distinct = (λ _. distinct xs old, λ _. distinct (insert_key pair_order xs p) new);
    many = length-insert xs none;
  }

  -- what stands in the list before the pair is taken out
  pub in_removed : (xs : List Pair) (q : Pair) → list_any (same p) xs ≡ true
      → Has xs q ↔ ((q ≡ p) ⊎ Has (remove_key (same p) xs) q)
  in_removed [] q e = absurd cc
  in_removed (x ∷ xs) q e =
      elim (cases_Bool (same p x)) [
        | inl here ↦
            let one : p ≡ x = equal_from_same p x here in
            rw here (
              λ h. elim h [ inl is ↦ inl (is ∙ sym one) | inr later ↦ inr later ],
              λ h. elim h [ inl is ↦ inl (is ∙ one) | inr later ↦ inr later ],
            )
        | inr other ↦
            let more = in_removed xs q (rw other at e) in
            rw other (
              λ h. elim h [
                | inl is ↦ inr (inl is)
                | inr later ↦ elim (more.0 later) [ inl is ↦ inl is | inr there ↦ inr (inr there) ]
              ],
              λ h. elim h [
                | inl is ↦ inr (more.1 (inl is))
                | inr there ↦ elim there [ inl is ↦ inl is | inr later ↦ inr (more.1 (inr later)) ]
              ],
            )
      ]

  pub gone : (xs : List Pair) → AreDistinct xs → ¬ Has (remove_key (same p) xs) p
  gone [] h has = has
  gone (x ∷ xs) h has =
      elim (cases_Bool (same p x)) [
        | inl here ↦ h.0 (subst (Has xs) (equal_from_same p x here) (rw here at has))
        | inr other ↦ elim (rw other at has) [
          | inl is ↦ absurd (let tied = same_from_equal p x is in cc)
          | inr later ↦ gone xs h.1 later
        ]
      ]

  pub length-remove : (xs : List Pair) → list_any (same p) xs ≡ true → length xs ≡ length (remove_key (same p) xs) + 1
  length-remove [] e = absurd cc
  length-remove (x ∷ xs) e =
      elim (cases_Bool (same p x)) [
        | inl here ↦ rw here (omega arith)
        | inr other ↦ let more = length-remove xs (rw other at e) in rw other (omega arith)
      ]

  -- a pair that was there is there no more once it is taken out
  pub one_less : (xs : List Pair) → AreAscending xs → AreAscending (remove_key (same p) xs)
      → list_any (same p) xs ≡ true → HasOneMore p (remove_key (same p) xs) xs
  one_less xs old new some = record {
    fresh = gone xs (distinct xs old);
    members = λ q. in_removed xs q some;
    distinct = (λ _. distinct (remove_key (same p) xs) new, λ _. distinct xs old);
    many = length-remove xs some;
  }
