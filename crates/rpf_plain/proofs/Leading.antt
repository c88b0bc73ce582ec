-- Rows in the order of their prefixes, and what a walk ahead finds in those that are left.
use Rattle.std.proofs.Common.{◌≡◌, ◌⊎◌, ◌↔◌, inl, inr, ℕ, List, [], ◌∷◌, refl, sym, ap, subst, ◌∙◌, true, Option, Some, None}
use Rattle.std.specs.Cmp.{tied_itself}
use Rattle.std.specs.List.{AllByRecursion}
use Rattle.std.specs.FinMap.{is_sorted}
use Rattle.std.specs.Ordering.{ordering_reverse, ordering_then}
use Rattle.std.specs.declared.cmp.Ordering.{Ordering}
use Rattle.std.specs.declared.cmp.Ordering.TheVariants.{Less, Equal, Greater}
use Rattle.urpf_base.specs.Address.{Block}
use Rattle.urpf_base.specs.Masks.{InMask}
use Rattle.urpf_base.specs.Order.{IsBefore, prefix_order}
use Rattle.prefix_map.proofs.Order.{prefix_ties, prefix_total}
use Rattle.prefix_map.proofs.Sorted.{head_below, tail_sorted}
use Rattle.rpf_plain.specs.Ahead.{Found, GoesOver, InPrefixOrder, IsBehind, NotBefore}
use Rattle.rpf_plain.specs.Kept.{each_row}
use Rattle.rpf_plain.specs.Rows.{row_order}
use Rattle.rpf_plain.specs.Walks.{Hears}
use Rattle.rpf_plain.specs.declared.rows.Row.{Row}
use Rattle.rpf_plain.proofs.Turns.{both}

-- nothing is before itself
pub not_before_itself : (p : Block) → ¬ IsBefore p p
not_before_itself p h = let same = tied_itself prefix_total p in cc

-- of two prefixes, one is not before the other
pub one_way : (p q : Block) → IsBefore p q → ¬ IsBefore q p
one_way p q h k = let turned = prefix_total.antisymm p q in cc

-- three ways that two prefixes stand to each other
pub compared : (p q : Block) → IsBefore p q ⊎ ((p ≡ q) ⊎ IsBefore q p)
compared p q = by (prefix_order p q) refl where
  by : (o : Ordering) → prefix_order p q ≡ o → IsBefore p q ⊎ ((p ≡ q) ⊎ IsBefore q p)
  by Less e = inl e
  by Equal e = inr (inl (prefix_ties p q e))
  by Greater e = inr (inr (prefix_total.antisymm q p ∙ ap ordering_reverse e))

first_less : (o r : Ordering) → ordering_then o r ≡ Less → ¬ (o ≡ Greater)
first_less Less r e g = cc
first_less Equal r e g = cc
first_less Greater r e g = cc

later : (row : Row) (es : List (Row × ℕ)) → AllByRecursion (λ e. row_order row e.0 ≡ Less) es
    → AllByRecursion (λ r. ¬ IsBefore r.prefix row.prefix) (each_row es)
later row [] all = tt
later row (e ∷ es) all = (
  λ h. first_less (prefix_order row.prefix e.0.prefix) _ all.0
      (prefix_total.antisymm row.prefix e.0.prefix ∙ ap ordering_reverse h),
  later row es all.1,
)

-- rows that ascend are in the order of their prefixes
pub in_prefix_order : (es : List (Row × ℕ)) → is_sorted row_order es ≡ true → InPrefixOrder (each_row es)
in_prefix_order [] sorted = tt
in_prefix_order (e ∷ es) sorted =
    (later e.0 es (head_below row_order e es sorted), in_prefix_order es (tail_sorted row_order e es sorted))

-- a row whose prefix does not come behind this one is not of a prefix that does
pub passed_by : (row : Row) (rows : List Row) (prefix : Block) → ¬ IsBefore prefix row.prefix → (p : Block)
    → IsBefore prefix p → (i : ℕ) → (Hears (row ∷ rows) i p ↔ Hears rows i p)
passed_by row rows prefix not_behind p behind i = (
  λ h. elim h [
    | inl is ↦ absurd (not_behind (subst (IsBefore prefix) (sym is.0) behind))
    | inr more ↦ more
  ],
  inr,
)

none_of : (prefix : Block) (first : Row) (rows : List Row) → IsBefore prefix first.prefix
    → AllByRecursion (λ y. ¬ IsBefore y.prefix first.prefix) rows → (i : ℕ) → ¬ Hears rows i prefix
none_of prefix first [] behind all i h = h
none_of prefix first (y ∷ rows) behind all i h =
    elim h [
      | inl is ↦ all.0 (subst (λ q. IsBefore q first.prefix) (sym is.0) behind)
      | inr more ↦ none_of prefix first rows behind all.1 i more
    ]

-- where the first row that is left is of a prefix behind this one, none is of this one
pub none_left : (prefix : Block) (first : Row) (rows : List Row) → InPrefixOrder (first ∷ rows)
    → IsBefore prefix first.prefix → (i : ℕ) → ¬ Hears (first ∷ rows) i prefix
none_left prefix first rows order behind i h =
    elim h [
      | inl is ↦ not_before_itself prefix (subst (IsBefore prefix) is.0 behind)
      | inr more ↦ none_of prefix first rows behind order.0 i more
    ]

-- each row is of a prefix that is none before nothing
pub from_none : (rows : List Row) → AllByRecursion (λ row. NotBefore None row.prefix) rows
from_none [] = tt
from_none (row ∷ rows) = (tt, from_none rows)

-- a prefix that is not before the one that was asked for last is that one, or is behind it
pub at_or_behind : (at : Option Block) (p : Block) → NotBefore at p → (at ≡ Some p) ⊎ IsBehind at p
at_or_behind None p not_before = inr tt
at_or_behind (Some q) p not_before =
    elim (compared q p) [
      | inl before ↦ inr before
      | inr rest ↦ elim rest [ inl same ↦ inl (ap (λ b. Some b) same) | inr after ↦ absurd (not_before after) ]
    ]

-- what is behind a prefix is behind all that it is not before
pub behind_still : (at : Option Block) (prefix p : Block) → NotBefore at prefix → IsBefore prefix p → IsBehind at p
behind_still None prefix p not_before more = tt
behind_still (Some q) prefix p not_before more =
    elim (compared q prefix) [
      | inl before ↦ prefix_total.trans q prefix p before more
      | inr rest ↦ elim rest [
        | inl same ↦ subst (λ b. IsBefore b p) (sym same) more
        | inr after ↦ absurd (not_before after)
      ]
    ]

-- a prefix that is not before the one that was asked for last, and is another, is behind it
pub is_behind : (at : Option Block) (p : Block) → NotBefore at p → ¬ (at ≡ Some p) → IsBehind at p
is_behind at p not_before other =
    elim (at_or_behind at p not_before) [ inl same ↦ absurd (other same) | inr behind ↦ behind ]

-- where a walk is asked for a prefix behind the last one, it knows that prefix then
pub goes_on : (rows : List Row) (old new : Found) (prefix : Block) → GoesOver rows old → NotBefore old.at prefix
    → IsBehind old.at prefix → new.at ≡ Some prefix → ((i : ℕ) → (InMask new.ifaces i ↔ Hears old.left i prefix))
    → ((p : Block) → IsBefore prefix p → (i : ℕ) → (Hears new.left i p ↔ Hears old.left i p)) → GoesOver rows new
goes_on rows old new prefix over not_before behind at heard left = record {
  ifaces = λ p e i.
      let same : prefix ≡ p = cc in
      subst (λ q. InMask new.ifaces i ↔ Hears rows i q) same (both (heard i) (over.left prefix behind i));
  left = λ p more i.
      let after : IsBefore prefix p = subst (λ a. IsBehind a p) at more in
      both (left p after i) (over.left p (behind_still old.at prefix p not_before after) i);
}

-- the first of rows that are none before the prefix that was asked for last
pub first_of : (at : Option Block) (rows : List Row) (row : Row) (later : List Row) → rows ≡ row ∷ later
    → AllByRecursion (λ r. NotBefore at r.prefix) rows → NotBefore at row.prefix
first_of at rows row later is all = (subst (λ l. AllByRecursion (λ (r : Row). NotBefore at r.prefix) l) is all).0
