-- Two lists side by side: what comes first, what is found at a prefix, and that the prefixes ascend.
use Rattle.std.proofs.Common.{◌≡◌, true, List, [], ◌∷◌, ◌++◌, refl, sym, subst, ◌∙◌}
use Rattle.std.proofs.Common.{Option, Some, None}
use Rattle.std.specs.declared.cmp.Ordering.TheVariants.{Less, Equal, Greater}
use Rattle.std.specs.Ordering.{is_gt}
use Rattle.std.specs.List.{AllByRecursion, filter}
use Rattle.std.specs.Option.{MatchOption}
use Rattle.std.specs.FinMap.{find, is_sorted}
use Rattle.urpf_base.specs.Address.{Block}
use Rattle.urpf_base.specs.Order.{prefix_order}
use Rattle.prefix_map.specs.Beside.{beside, led_by, right_alone}
use Rattle.prefix_map.proofs.Order.{prefix_total}
use Rattle.prefix_map.proofs.Sorted.{head_below, filter_all}

-- the pair that a walk gives leads those behind it
pub led : {X : Type 0} (r : Option X) (all later : List X)
    → MatchOption r ((all ≡ []) × (later ≡ [])) (λ x. all ≡ x ∷ later) → led_by r later ≡ all
led None all later h = sym h.0
led (Some x) all later h = sym h

module _ {X : Type 0} where
  abbrev pub AllAfter : Block → List (Block × X) → Type 0
  AllAfter p es = AllByRecursion (λ e. prefix_order p e.0 ≡ Less) es

  pub all_before : (p q : Block) (es : List (Block × X)) → prefix_order p q ≡ Less → AllAfter q es → AllAfter p es
  all_before p q [] before h = tt
  all_before p q (e ∷ es) before h = (prefix_total.trans p q e.0 before h.0, all_before p q es before h.1)

  all_tied : (p q : Block) (es : List (Block × X)) → prefix_order p q ≡ Equal → AllAfter q es → AllAfter p es
  all_tied p q [] tied h = tt
  all_tied p q (e ∷ es) tied h = (prefix_total.congr p q e.0 tied ∙ h.0, all_tied p q es tied h.1)

  none_before : (p : Block) (es : List (Block × X)) → AllAfter p es → filter (λ e. is_gt (prefix_order p e.0)) es ≡ []
  none_before p [] h = refl
  none_before p (e ∷ es) h = rw h.0 (none_before p es h.1)

  pub none_found : (p : Block) (es : List (Block × X)) → AllAfter p es → find prefix_order p es ≡ None
  none_found p [] h = refl
  none_found p (e ∷ es) h = rw h.0 (none_found p es h.1)

module _ {V W : Type 0} where
  -- all of the right comes after the first of the left
  left_first : (x : Block × V) (xs : List (Block × V)) (ys : List (Block × W)) → AllAfter x.0 ys
      → beside (x ∷ xs) ys ≡ (x.0, (Some x.1, None)) ∷ beside xs ys
  left_first x xs ys h =
      (λ i. right_alone (none_before x.0 ys h i) ++ (x.0, (Some x.1, none_found x.0 ys h i))
      ∷ beside xs (filter_all prefix_total x.0 ys h i))

  pub beside-less : (x : Block × V) (xs : List (Block × V)) (y : Block × W) (ys : List (Block × W))
      → is_sorted prefix_order (y ∷ ys) ≡ true → prefix_order x.0 y.0 ≡ Less
      → beside (x ∷ xs) (y ∷ ys) ≡ (x.0, (Some x.1, None)) ∷ beside xs (y ∷ ys)
  beside-less x xs y ys h is = left_first x xs (y ∷ ys) (is, all_before x.0 y.0 ys is (head_below prefix_order y ys h))

  pub beside-equal : (x : Block × V) (xs : List (Block × V)) (y : Block × W) (ys : List (Block × W))
      → is_sorted prefix_order (y ∷ ys) ≡ true → prefix_order x.0 y.0 ≡ Equal
      → beside (x ∷ xs) (y ∷ ys) ≡ (x.0, (Some x.1, Some y.1)) ∷ beside xs ys
  beside-equal x xs y ys h is =
      let after : AllAfter x.0 ys = all_tied x.0 y.0 ys is (head_below prefix_order y ys h) in
      rw is (λ i. right_alone (none_before x.0 ys after i) ++ (x.0, (Some x.1, Some y.1))
      ∷ beside xs (filter_all prefix_total x.0 ys after i))

  pub beside-greater : (x : Block × V) (xs : List (Block × V)) (y : Block × W) (ys : List (Block × W))
      → prefix_order x.0 y.0 ≡ Greater
      → beside (x ∷ xs) (y ∷ ys) ≡ (y.0, (None, Some y.1)) ∷ beside (x ∷ xs) ys
  beside-greater x xs y ys is = rw is refl

  -- the same where a walk has taken the first of each side, and takes the next
  pub steps_left : (l : Option (Block × V)) (ls : List (Block × V)) (r : Option (Block × W)) (rs : List (Block × W))
      (x : Block × V) (y : Block × W) (left : List (Block × V))
      → l ≡ Some x → r ≡ Some y → is_sorted prefix_order (led_by r rs) ≡ true → prefix_order x.0 y.0 ≡ Less → left ≡ ls
      → beside (led_by l ls) (led_by r rs) ≡ (x.0, (Some x.1, None)) ∷ beside left (led_by r rs)
  steps_left l ls r rs x y left is_l is_r h before taken =
      (λ i. beside (led_by (is_l i) ls) (led_by (is_r i) rs))
      ∙ beside-less x ls y rs (subst (λ o. is_sorted prefix_order (led_by o rs) ≡ true) is_r h) before
      ∙ (λ i. (x.0, (Some x.1, None)) ∷ beside (sym taken i) (led_by (sym is_r i) rs))

  pub steps_both : (l : Option (Block × V)) (ls : List (Block × V)) (r : Option (Block × W)) (rs : List (Block × W))
      (x : Block × V) (y : Block × W) (left : List (Block × V)) (right : List (Block × W))
      → l ≡ Some x → r ≡ Some y → is_sorted prefix_order (led_by r rs) ≡ true → prefix_order x.0 y.0 ≡ Equal → left ≡ ls
      → right ≡ rs
      → beside (led_by l ls) (led_by r rs) ≡ (x.0, (Some x.1, Some y.1)) ∷ beside left right
  steps_both l ls r rs x y left right is_l is_r h tied taken_left taken_right =
      (λ i. beside (led_by (is_l i) ls) (led_by (is_r i) rs))
      ∙ beside-equal x ls y rs (subst (λ o. is_sorted prefix_order (led_by o rs) ≡ true) is_r h) tied
      ∙ (λ i. (x.0, (Some x.1, Some y.1)) ∷ beside (sym taken_left i) (sym taken_right i))
