-- Tables of cells, once a prefix was given another one.
use Rattle.std.proofs.Common.{◌≡◌, ◌⊎◌, ◌↔◌, inl, inr, refl, sym, ap, subst, ◌∙◌, Bool, true, false, cond, Option, Some}
use Rattle.std.proofs.Common.{None}
use Rattle.std.specs.FinMap.{empty, get, get-insert, insert, same_map}
use Rattle.std.specs.Ordering.{eq_by_cmp}
use Rattle.urpf_base.specs.Order.{prefix_order}
use Rattle.urpf_base.specs.Address.{Block}
use Rattle.urpf_base.specs.declared.cells.Cell.{Cell}
use Rattle.prefix_map.specs.Mapped.{Mapped}
use Rattle.prefix_map.proofs.Held.{none_held, set_here, set_others}
use Rattle.prefix_map.proofs.Order.{prefix_ties, prefix_total, same_or_not}
use Rattle.rpf_plain.specs.Cells.{cell_at, cell_or_empty, empty_cell}
use Rattle.rpf_plain.specs.Walks.{IsFilled}
use Rattle.rpf_plain.specs.Written.{at_hand, with_hand}

-- an empty table has the empty cell everywhere
pub nothing : (m : Mapped Cell) (p : Block) → m ≡ empty → cell_at m p ≡ empty_cell
nothing m p is = ap cell_or_empty (none_held m p is)

pub nothing_filled : (m : Mapped Cell) → m ≡ empty → IsFilled m
nothing_filled m is p there = let none : get m p ≡ None = none_held m p is in absurd cc

module _ (m n : Mapped Cell) (p : Block) (c : Cell) (is : n ≡ insert m p c) where
  pub here : (q : Block) → p ≡ q → cell_at n q ≡ c
  here q e = subst (λ z. cell_at n z ≡ c) e (ap cell_or_empty (set_here m n p c is))

  pub others : (q : Block) → ¬ (p ≡ q) → cell_at n q ≡ cell_at m q
  others q other = ap cell_or_empty (set_others m n p c is q (λ e. other (sym e)))

  -- what the new cell has as the old one had it is as it was everywhere
  pub kept_at : {X : Type 0} (g : Cell → X) → g c ≡ g (cell_at m p) → (q : Block) → g (cell_at n q) ≡ g (cell_at m q)
  kept_at g same q =
      elim (same_or_not p q) [
        | inl e ↦ ap g (here q e) ∙ subst (λ z. g c ≡ g (cell_at m z)) e same
        | inr other ↦ ap g (others q other)
      ]

  -- what the new cell has more is more at that prefix
  pub either_at : (P : Cell → Type 0) (H : Type 0) → (P c ↔ (P (cell_at m p) ⊎ H)) → (q : Block)
      → (P (cell_at n q) ↔ (P (cell_at m q) ⊎ ((p ≡ q) × H)))
  either_at P H more q =
      elim (same_or_not p q) [
        | inl e ↦ (
          λ h. elim (more.0 (subst P (here q e) h)) [
            | inl a ↦ inl (subst (λ z. P (cell_at m z)) e a)
            | inr b ↦ inr (e, b)
          ],
          λ h. subst P (sym (here q e)) (elim h [
            | inl a ↦ more.1 (inl (subst (λ z. P (cell_at m z)) (sym e) a))
            | inr b ↦ more.1 (inr b.1)
          ]),
        )
        | inr other ↦ (
          λ h. inl (subst P (others q other) h),
          λ h. elim h [ inl a ↦ subst P (sym (others q other)) a | inr b ↦ absurd (other b.0) ],
        )
      ]

  -- a table without empty cells is still one
  pub filled_at : ¬ (c ≡ empty_cell) → IsFilled m → IsFilled n
  filled_at some filled q there =
      elim (same_or_not p q) [
        | inl e ↦
            let new : get n q ≡ Some c = subst (λ z. get n z ≡ Some c) e (set_here m n p c is) in
            let same : c ≡ empty_cell = cc in
            some same
        | inr other ↦ filled q (sym (set_others m n p c is q (λ e. other (sym e))) ∙ there)
      ]

instead : {X : Type 0} (b : Bool) (new old : Option X) (or : Option X) → cond b new (cond b old or) ≡ cond b new or
instead true new old or = refl
instead false new old or = refl

-- a prefix that is given a second cell has that one alone
pub twice : (m : Mapped Cell) (p : Block) (c d : Cell) → insert (insert m p c) p d ≡ insert m p d
twice m p c d =
    same_map prefix_total prefix_ties _ _
    (λ q. get-insert prefix_total (insert m p c) p d q
    ∙ ap (cond (eq_by_cmp prefix_order q p) (Some d)) (get-insert prefix_total m p c q)
    ∙ instead (eq_by_cmp prefix_order q p) (Some d) (Some c) (get m q)
    ∙ sym (get-insert prefix_total m p d q))

-- the cell at hand is that of its prefix
pub at_hand_is : (hand : Option (Block × Cell)) (cells : Mapped Cell) (at p : Block) (c : Cell) → hand ≡ Some (at, c)
    → at ≡ p → cell_at (with_hand hand cells) p ≡ c
at_hand_is hand cells at p c is same =
    let whole : with_hand hand cells ≡ insert cells at c = ap (λ h. with_hand h cells) is in
    here cells (with_hand hand cells) at c whole p same

-- a prefix whose cell is at hand is given another one without that
pub put_again : (hand : Option (Block × Cell)) (cells : Mapped Cell) (p : Block) (c : Cell) → at_hand hand ≡ Some p
    → insert cells p c ≡ insert (with_hand hand cells) p c
put_again None cells p c is = cc
put_again (Some e) cells p c is =
    let same : e.0 ≡ p = cc in
    subst (λ q. insert cells p c ≡ insert (insert cells q e.1) p c) (sym same) (sym (twice cells p e.1 c))
