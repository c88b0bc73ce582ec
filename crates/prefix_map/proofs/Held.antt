-- What holds of every map from prefixes: its lists have what it has, each prefix once, in order.
use Rattle.std.proofs.Common.{◌≡◌, true, cond, List, [], ◌∷◌, map, length, arith, Some, None, refl, sym, ap}
use Rattle.std.proofs.Common.{subst, ◌∙◌, ◌↔◌}
use Rattle.std.specs.Option.{IsSome}
use Rattle.std.specs.declared.cmp.Ordering.TheVariants.{Less}
use Rattle.std.specs.Cmp.{tied_itself}
use Rattle.std.specs.Ordering.{is_eq}
use Rattle.std.specs.FinMap.{empty, entries, keys, get, get-empty, get-entries, get-insert, get-remove, insert}
use Rattle.std.specs.FinMap.{is_sorted, len, len-empty, len-entries, remove, same_map}
use Rattle.urpf_base.specs.Address.{Block}
use Rattle.urpf_base.specs.Lists.{Has, AreDistinct}
use Rattle.urpf_base.specs.Order.{prefix_order}
use Rattle.prefix_map.specs.Mapped.{Mapped}
use Rattle.prefix_map.specs.Order.{IsAscending}
use Rattle.prefix_map.proofs.Order.{prefix_total, prefix_ties, no_tie}
use Rattle.prefix_map.proofs.Seen.{entries_ascend}
use Rattle.prefix_map.proofs.Sorted.{distinct, found, only_found, pair_found, only_pair, all_at, head_below}
use Rattle.prefix_map.proofs.Sorted.{tail_sorted}

-- the first parts of pairs that ascend are in order
pub ascends : {X : Type 0} (es : List (Block × X)) → is_sorted prefix_order es ≡ true → IsAscending (map (λ e. e.0) es)
ascends [] h = tt
ascends (e ∷ es) h = (
  λ q later. all_at (λ k. prefix_order e.0 k ≡ Less) es q (head_below prefix_order e es h) later,
  ascends es (tail_sorted prefix_order e es h),
)

module _ {V : Type 0} where
  -- each prefix stands once among the keys
  pub is_distinct : (m : Mapped V) → AreDistinct (keys m)
  is_distinct m = distinct prefix_total (entries m) (entries_ascend m)

  -- the keys are the prefixes that have a value
  pub has_held : (m : Mapped V) (p : Block) → Has (keys m) p ↔ IsSome (get m p)
  has_held m p = (
    λ h. subst IsSome (sym (get-entries m p)) (found prefix_total (entries m) p h),
    λ h. only_found prefix_total prefix_ties (entries m) p (subst IsSome (get-entries m p) h),
  )

  -- the pairs are what the map has
  pub has_pair : (m : Mapped V) (p : Block) (v : V) → Has (entries m) (p, v) ↔ (get m p ≡ Some v)
  has_pair m p v = (
    λ h. get-entries m p ∙ pair_found prefix_total (entries m) p v (entries_ascend m) h,
    λ h. only_pair prefix_total prefix_ties (entries m) p v (sym (get-entries m p) ∙ h),
  )

  -- maps that have the same at each prefix are the same
  pub same_held : (a b : Mapped V) → ((p : Block) → get a p ≡ get b p) → a ≡ b
  same_held a b h = same_map prefix_total prefix_ties a b h

  pub is_ascending : (m : Mapped V) → IsAscending (keys m)
  is_ascending m = ascends (entries m) (entries_ascend m)

  none_in : (es : List (Block × V)) → length es ≡ 0 → es ≡ []
  none_in [] is = refl
  none_in (e ∷ es) is = absurd (omega arith)

  -- the empty map has no pairs
  pub no_entries : (m : Mapped V) → m ≡ empty → entries m ≡ []
  no_entries m is = none_in (entries m) (sym (len-entries m) ∙ ap len is ∙ len-empty prefix_order V)

  pub none_held : (m : Mapped V) (p : Block) → m ≡ empty → get m p ≡ None
  none_held m p is = ap (λ n. get n p) is ∙ get-empty prefix_order p

  -- what was set is there, and all else is as it was
  pub set_here : (m n : Mapped V) (p : Block) (v : V) → n ≡ insert m p v → get n p ≡ Some v
  set_here m n p v is =
      ap (λ l. get l p) is ∙ get-insert prefix_total m p v p
      ∙ ap (λ o. cond (is_eq o) (Some v) (get m p)) (tied_itself prefix_total p)

  pub set_others : (m n : Mapped V) (p : Block) (v : V) → n ≡ insert m p v → (q : Block) → ¬ (q ≡ p) → get n q ≡ get m q
  set_others m n p v is q other =
      ap (λ l. get l q) is ∙ get-insert prefix_total m p v q
      ∙ ap (λ b. cond b (Some v) (get m q)) (no_tie q p (λ same. other (sym same)))

  -- what was taken out is not there, and all else is as it was
  pub gone_here : (m n : Mapped V) (p : Block) → n ≡ remove m p → get n p ≡ None
  gone_here m n p is =
      ap (λ l. get l p) is ∙ get-remove prefix_total m p p
      ∙ ap (λ o. cond (is_eq o) None (get m p)) (tied_itself prefix_total p)

  pub gone_others : (m n : Mapped V) (p : Block) → n ≡ remove m p → (q : Block) → ¬ (q ≡ p) → get n q ≡ get m q
  gone_others m n p is q other =
      ap (λ l. get l q) is ∙ get-remove prefix_total m p q
      ∙ ap (λ b. cond b None (get m q)) (no_tie q p (λ same. other (sym same)))
