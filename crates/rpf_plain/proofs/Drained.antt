-- A world has one cell for each prefix, so what differs from a table of its cells is what changed.
use Rattle.std.proofs.Common.{◌≡◌, Bool, true, false, IsTrue, List, [], ◌∷◌, Option, Some, None, refl, sym, ap, subst}
use Rattle.std.specs.FinMap.{empty, get}
use Rattle.urpf_base.specs.Address.{Block}
use Rattle.urpf_base.specs.Lists.{Has}
use Rattle.urpf_base.specs.declared.cells.Cell.{Cell}
use Rattle.urpf_base.specs.declared.cells.CellChange.{CellChange}
use Rattle.urpf_base.proofs.Members.{masks_same}
use Rattle.prefix_map.specs.Mapped.{Mapped}
use Rattle.rpf_plain.specs.Cells.{AreChanges, AreDifferences, IsCell, IsTable, cell_at, cell_or_empty, empty_cell}
use Rattle.rpf_plain.specs.Sets.{paired}
use Rattle.origin_pairs.specs.Pairs.{Pair}
use Rattle.rpf_plain.specs.World.{Roles, World}
use Rattle.prefix_map.proofs.Held.{same_held as same_held_map}
use Rattle.rpf_plain.proofs.Tables.{nothing, nothing_filled}
use Rattle.rpf_plain.proofs.Turns.{no_member}

same_truth : (a b : Bool) → (IsTrue a → IsTrue b) → (IsTrue b → IsTrue a) → a ≡ b
same_truth true true to from = refl
same_truth true false to from = let no : false ≡ true = to refl in cc
same_truth false true to from = let no : false ≡ true = from refl in cc
same_truth false false to from = refl

-- a world has one cell for a prefix
pub one_cell : (w : World) (p : Block) (c d : Cell) → IsCell w p c → IsCell w p d → c ≡ d
one_cell w p c d x y =
    let f : c.f ≡ d.f = masks_same c.f d.f (λ i. (λ h. (y.f i).1 ((x.f i).0 h), λ h. (x.f i).1 ((y.f i).0 h))) in
    let a : c.a ≡ d.a = masks_same c.a d.a (λ i. (λ h. (y.a i).1 ((x.a i).0 h), λ h. (x.a i).1 ((y.a i).0 h))) in
    let z : c.z ≡ d.z = same_truth c.z d.z (λ h. y.z.1 (x.z.0 h)) (λ h. x.z.1 (y.z.0 h)) in
    λ i. record { f = f i; a = a i; z = z i }

-- what differs from the table of now is what changed since the old one
pub are_changes : (w : World) (old new : Mapped Cell) (changes : List CellChange) → IsTable w new
    → AreDifferences old new changes → AreChanges w old changes
are_changes w old new changes table are = record {
  ascending = are.ascending;
  each = λ p c. (
    λ h.
        let told = (are.each p c).0 h in
        (subst (IsCell w p) (sym told.0) (table.cells p), told.1),
    λ h. (are.each p c).1 (one_cell w p c (cell_at new p) h.0 (table.cells p), h.1),
  );
}

-- nothing is told where the table has the cells of now already
pub no_changes : (w : World) (base : Mapped Cell) → IsTable w base → AreChanges w base []
no_changes w base table = record {
  ascending = tt;
  each = λ p c. (
    λ h. absurd h,
    λ h. absurd (h.1 (one_cell w p c (cell_at base p) h.0 (table.cells p))),
  );
}

same_held : (v w : Option Cell) → ¬ (v ≡ Some empty_cell) → ¬ (w ≡ Some empty_cell) → cell_or_empty v ≡ cell_or_empty w
    → v ≡ w
same_held None None p q e = refl
same_held None (Some y) p q e = absurd (q (ap (λ c. Some c) (sym e)))
same_held (Some x) None p q e = absurd (p (ap (λ c. Some c) e))
same_held (Some x) (Some y) p q e = ap (λ c. Some c) e

-- a world has one table
pub one_table : (w : World) (m n : Mapped Cell) → IsTable w m → IsTable w n → m ≡ n
one_table w m n x y =
    same_held_map m n (λ p.
    same_held (get m p) (get n p) (x.filled p) (y.filled p)
    (one_cell w p (cell_at m p) (cell_at n p) (x.cells p) (y.cells p)))

none_paired : (pairs : List Pair) → paired pairs [] ≡ []
none_paired [] = refl
none_paired (pair ∷ pairs) = none_paired pairs

-- where there are no rows all cells are empty
pub no_rows : (roles : Roles) (pairs : List Pair) → IsTable (record { rows = []; roles = roles; pairs = pairs }) empty
no_rows roles pairs = record {
  cells = λ p. subst (IsCell (record { rows = []; roles = roles; pairs = pairs }) p)
      (sym (nothing empty p refl)) (record {
        f = λ i. (λ h. no_member i h, λ h. absurd h);
        a = λ i. (
          λ h. absurd (no_member i h),
          λ h. absurd (subst (λ ps. Has ps p) (none_paired pairs) h.1),
        );
        z = (λ h. absurd cc, λ h. absurd (subst (λ ps. Has ps p) (none_paired pairs) h));
      });
  filled = nothing_filled empty refl;
}
