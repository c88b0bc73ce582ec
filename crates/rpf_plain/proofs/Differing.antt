-- There is one list of what differs between two worlds.
use Rattle.std.proofs.Common.{◌≡◌, ◌↔◌, inl, inr, List, [], ◌∷◌, map, refl, sym, ap, subst, ◌∙◌}
use Rattle.std.specs.Cmp.{tied_itself}
use Rattle.std.specs.FinMap.{entries}
use Rattle.std.specs.declared.cmp.Ordering.TheVariants.{Equal, Less}
use Rattle.urpf_base.specs.Address.{Block}
use Rattle.urpf_base.specs.Cells.{AllAfter, AreAscending}
use Rattle.urpf_base.specs.Lists.{Has}
use Rattle.urpf_base.specs.Order.{IsBefore, prefix_order}
use Rattle.urpf_base.specs.declared.cells.Cell.{Cell}
use Rattle.urpf_base.specs.declared.cells.CellChange.{CellChange}
use Rattle.prefix_map.specs.Beside.{beside}
use Rattle.prefix_map.specs.Mapped.{Mapped}
use Rattle.prefix_map.specs.Order.{IsAscending}
use Rattle.prefix_map.proofs.Order.{prefix_total}
use Rattle.prefix_map.proofs.Sides.{beside_ascends}
use Rattle.rpf_plain.specs.Cells.{AreChanges, AreDifferences, IsCell, IsDifference, IsTable, cell_at, cell_or_empty}
use Rattle.rpf_plain.specs.World.{World}
use Rattle.rpf_plain.proofs.Changed.{HasChange, Pairs, change, in_tables, same_or_other}
use Rattle.rpf_plain.proofs.Drained.{are_changes, one_cell}
use Rattle.rpf_plain.proofs.Made.{some_table}
use Rattle.rpf_plain.proofs.Turns.{both}

-- the list has what differs between two sides, ascending
record ListsChanges (es : Pairs) (changes : List CellChange) : Type 0 where
  ascending : AreAscending changes
  each : (p : Block) (c : Cell) → (Has changes (change p c) ↔ HasChange es p c)

of_pair : (es : Pairs) (p : Block) (c : Cell) → HasChange es p c → Has (map (λ e. e.0) es) p
of_pair [] p c h = h
of_pair (e ∷ es) p c (inl here) = inl (sym here.0)
of_pair (e ∷ es) p c (inr later) = inr (of_pair es p c later)

all_after : (q : Block) (changes : List CellChange)
    → ((p : Block) (c : Cell) → Has changes (change p c) → IsBefore q p) → AllAfter q changes
all_after q [] before = tt
all_after q (x ∷ changes) before =
    (before x.prefix x.cell (inl refl), all_after q changes (λ p c later. before p c (inr later)))

changes_of : (es : Pairs) → IsAscending (map (λ e. e.0) es) → (changes : List CellChange) × ListsChanges es changes
changes_of [] ascends = ([], record { ascending = tt; each = λ p c. (λ h. h, λ h. h) })
changes_of (e ∷ es) ascends =
    let old = cell_or_empty e.1.0 in
    let new = cell_or_empty e.1.1 in
    let (changes, lists) = changes_of es ascends.1 in
    elim (same_or_other old new) [
      | inl same ↦ (
        changes,
        record {
          ascending = lists.ascending;
          each = λ p c. (
            λ h. inr ((lists.each p c).0 h),
            λ h. elim h [
              | inl one ↦ absurd (one.2 (same ∙ one.1))
              | inr later ↦ (lists.each p c).1 later
            ],
          );
        },
      )
      | inr other ↦ (
        change e.0 new ∷ changes,
        record {
          ascending = (
            all_after e.0 changes (λ p c has. ascends.0 p (of_pair es p c ((lists.each p c).0 has))),
            lists.ascending,
          );
          each = λ p c. (
            λ h. elim h [
              | inl one ↦
                  let cell : c ≡ new = ap (λ x. x.cell) one in
                  inl (sym (ap (λ x. x.prefix) one), sym cell, λ is. other (is ∙ cell))
              | inr later ↦ inr ((lists.each p c).0 later)
            ],
            λ h. elim h [
              | inl one ↦ inl (λ i. change (sym one.0 i) (sym one.1 i))
              | inr later ↦ inr ((lists.each p c).1 later)
            ],
          );
        },
      )
    ]

-- two tables have a list of what differs
some_differences : (m n : Mapped Cell) → (changes : List CellChange) × AreDifferences m n changes
some_differences m n =
    let (changes, lists) = changes_of (beside (entries m) (entries n)) (beside_ascends m n) in
    (changes, record { ascending = lists.ascending; each = λ p c. both (lists.each p c) (in_tables m n p c) })

-- the changes against the table of a world are what differs from that world
pub difference_is : (old new : World) (table : Mapped Cell) (changes : List CellChange) → IsTable old table
    → AreChanges new table changes → IsDifference old new changes
difference_is old new table changes is are = record {
  ascending = are.ascending;
  each = λ p c. (
    λ h.
        let told = (are.each p c).0 h in
        (told.0, λ other. told.1 (one_cell old p c (cell_at table p) other (is.cells p))),
    λ h. (are.each p c).1 (h.0, λ same. h.1 (subst (IsCell old p) (sym same) (is.cells p))),
  );
}

-- there is a list of what differs
pub some_difference : (old new : World) → (changes : List CellChange) × IsDifference old new changes
some_difference old new =
    let (m, of_old) = some_table old in
    let (n, of_new) = some_table new in
    let (changes, are) = some_differences m n in
    (changes, difference_is old new m changes of_old (are_changes new m n changes of_new are))

-- what comes after a prefix is not before it
not_back : (p q : Block) → IsBefore p q → ¬ IsBefore q p
not_back p q before back =
    let less : prefix_order p p ≡ Less = prefix_total.trans p q p before back in
    let tied : prefix_order p p ≡ Equal = tied_itself prefix_total p in
    absurd cc

is_after : (q : Block) (changes : List CellChange) (x : CellChange) → AllAfter q changes → Has changes x
    → IsBefore q x.prefix
is_after q [] x after h = absurd h
is_after q (y ∷ changes) x after (inl same) = subst (λ (z : CellChange). IsBefore q z.prefix) (sym same) after.0
is_after q (y ∷ changes) x after (inr later) = is_after q changes x after.1 later

-- what stands behind the first is not the first
not_first : (x : CellChange) (a : List CellChange) → AllAfter x.prefix a → ¬ Has a x
not_first x a after h = let before = is_after x.prefix a x after h in not_back x.prefix x.prefix before before

same_first : (x y : CellChange) (a b : List CellChange) → AllAfter x.prefix a → AllAfter y.prefix b
    → Has (y ∷ b) x → Has (x ∷ a) y → x ≡ y
same_first x y a b after_x after_y (inl same) h = same
same_first x y a b after_x after_y (inr later) (inl same) = sym same
same_first x y a b after_x after_y (inr later) (inr more) =
    absurd (not_back y.prefix x.prefix (is_after y.prefix b x after_y later) (is_after x.prefix a y after_x more))

-- lists that ascend and have the same changes are one
same_list : (a b : List CellChange) → AreAscending a → AreAscending b → ((x : CellChange) → Has a x → Has b x)
    → ((x : CellChange) → Has b x → Has a x) → a ≡ b
same_list [] [] up_a up_b to from = refl
same_list [] (y ∷ b) up_a up_b to from = absurd (from y (inl refl))
same_list (x ∷ a) [] up_a up_b to from = absurd (to x (inl refl))
same_list (x ∷ a) (y ∷ b) up_a up_b to from =
    let first : x ≡ y = same_first x y a b up_a.0 up_b.0 (to x (inl refl)) (from y (inl refl)) in
    let rest : a ≡ b =
    same_list a b up_a.1 up_b.1
    (λ z h. elim (to z (inr h)) [
      | inl same ↦ absurd (not_first x a up_a.0 (subst (Has a) (same ∙ sym first) h))
      | inr later ↦ later
    ])
    (λ z h. elim (from z (inr h)) [
      | inl same ↦ absurd (not_first y b up_b.0 (subst (Has b) (same ∙ first) h))
      | inr later ↦ later
    ]) in
    λ i. first i ∷ rest i

-- and no other
pub one_difference : (old new : World) (a b : List CellChange) → IsDifference old new a → IsDifference old new b
    → a ≡ b
one_difference old new a b x y =
    same_list a b x.ascending y.ascending
    (λ z h. (y.each z.prefix z.cell).1 ((x.each z.prefix z.cell).0 h))
    (λ z h. (x.each z.prefix z.cell).1 ((y.each z.prefix z.cell).0 h))
