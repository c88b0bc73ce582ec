-- The pairs after a prefix: the first of them, and then the pairs after that one.
use Rattle.std.proofs.Common.{◌≡◌, ◌⊎◌, inl, inr, Bool, true, false, cond, List, [], ◌∷◌, refl, sym, ap, subst, ◌∙◌}
use Rattle.std.proofs.Common.{Option, Some, None}
use Rattle.std.specs.declared.cmp.Ordering.{Ordering}
use Rattle.std.specs.declared.cmp.Ordering.TheVariants.{Less, Equal, Greater}
use Rattle.std.specs.Ordering.{is_lt, ordering_reverse}
use Rattle.std.specs.Cmp.{tied_itself}
use Rattle.std.specs.List.{AllByRecursion, filter}
use Rattle.std.specs.FinMap.{is_sorted}
use Rattle.urpf_base.specs.Address.{Block}
use Rattle.urpf_base.specs.Lists.{Has}
use Rattle.urpf_base.specs.Order.{prefix_order}
use Rattle.prefix_map.specs.Order.{is_after}
use Rattle.prefix_map.proofs.Order.{prefix_total}
use Rattle.prefix_map.proofs.Sorted.{head_below, tail_sorted, filter_all}

-- what comes after a prefix that comes after the start comes after the start
after_later : (start : Option Block) (x y : Block) → is_after start x ≡ true → prefix_order x y ≡ Less
    → is_after start y ≡ true
after_later None x y h before = refl
after_later (Some p) x y h before = ap is_lt (prefix_total.trans p x y (is_less (prefix_order p x) h) before)
  where
    is_less : (o : Ordering) → is_lt o ≡ true → o ≡ Less
    is_less Less e = refl
    is_less Equal e = cc
    is_less Greater e = cc

not_before : (x y : Block) → prefix_order x y ≡ Less → is_lt (prefix_order y x) ≡ false
not_before x y before = ap is_lt (prefix_total.antisymm y x) ∙ ap (λ o. is_lt (ordering_reverse o)) before

module _ {X : Type 0} where
  abbrev after_in : Option Block → List (Block × X) → List (Block × X)
  after_in start es = filter (λ e. is_after start e.0) es

  all_after : (start : Option Block) (x : Block) (es : List (Block × X)) → is_after start x ≡ true
      → AllByRecursion (λ e. prefix_order x e.0 ≡ Less) es → after_in start es ≡ es
  all_after start x [] h below = refl
  all_after start x (e ∷ es) h below =
      rw (after_later start x e.0 h below.0) (ap (λ t. e ∷ t) (all_after start x es h below.1))

  -- the first of what comes after the start is of the list, and comes after the start
  pub first_has : (start : Option Block) (es : List (Block × X)) (r : Block × X) (t : List (Block × X))
      → after_in start es ≡ r ∷ t → Has es r × (is_after start r.0 ≡ true)
  first_has start [] r t is = cc
  first_has start (e ∷ es) r t is = by (is_after start e.0) refl is (first_has start es r t)
    where
      by : (b : Bool) → is_after start e.0 ≡ b → cond b (e ∷ after_in start es) (after_in start es) ≡ r ∷ t
          → (after_in start es ≡ r ∷ t → Has es r × (is_after start r.0 ≡ true))
          → ((r ≡ e) ⊎ Has es r) × (is_after start r.0 ≡ true)
      by true at is later =
          let same : e ≡ r = cc in (inl (sym same), subst (λ (s : Block × X). is_after start s.0 ≡ true) same at)
      by false at is later = let more : Has es r × (is_after start r.0 ≡ true) = later is in (inr more.0, more.1)

  first_of : (start : Option Block) (P : Block × X → Type 0) (es : List (Block × X)) (r : Block × X)
      (t : List (Block × X)) → AllByRecursion P es → after_in start es ≡ r ∷ t → P r
  first_of start P [] r t h is = cc
  first_of start P (e ∷ es) r t h is = by (is_after start e.0) h.0 is (first_of start P es r t h.1)
    where
      by : (b : Bool) → P e → cond b (e ∷ after_in start es) (after_in start es) ≡ r ∷ t
          → (after_in start es ≡ r ∷ t → P r) → P r
      by true at is later = let same : e ≡ r = cc in subst P same at
      by false at is later = later is

  walk_by : (start : Option Block) (e : Block × X) (es : List (Block × X)) (r : Block × X) (t : List (Block × X))
      (b : Bool) → is_after start e.0 ≡ b
      → AllByRecursion (λ d. prefix_order e.0 d.0 ≡ Less) es
      → cond b (e ∷ after_in start es) (after_in start es) ≡ r ∷ t
      → (after_in start es ≡ r ∷ t → after_in (Some r.0) es ≡ t) → after_in (Some r.0) (e ∷ es) ≡ t
  walk_by start e es r t true at below is later =
      let same : e ≡ r = cc in
      let rest : after_in start es ≡ t = cc in
      let whole : after_in start es ≡ es = all_after start e.0 es at below in
      let kept : after_in (Some e.0) es ≡ es = filter_all prefix_total e.0 es below in
      let own : is_lt (prefix_order e.0 e.0) ≡ false = ap is_lt (tied_itself prefix_total e.0) in
      subst (λ (s : Block × X). after_in (Some s.0) (e ∷ es) ≡ t) same (rw own (kept ∙ sym whole ∙ rest))
  walk_by start e es r t false at below is later =
      let past : is_lt (prefix_order r.0 e.0)
      ≡ false = not_before e.0 r.0 (first_of start (λ d. prefix_order e.0 d.0 ≡ Less) es r t below is) in
      rw past (later is)

  -- after the first of the pairs come those that came behind it
  pub walk : (start : Option Block) (es : List (Block × X)) (r : Block × X) (t : List (Block × X))
      → is_sorted prefix_order es ≡ true → after_in start es ≡ r ∷ t → after_in (Some r.0) es ≡ t
  walk start [] r t h is = cc
  walk start (e ∷ es) r t h is =
      walk_by start e es r t (is_after start e.0) refl (head_below prefix_order e es h) is
      (walk start es r t (tail_sorted prefix_order e es h))
