-- Lists of cells that ascend by prefix.
use Rattle.std.proofs.Common.{List, [], ◌∷◌, ◌++◌}
use Rattle.urpf_base.specs.Address.{Block}
use Rattle.urpf_base.specs.Order.{IsBefore}
use Rattle.urpf_base.specs.Cells.{AllBefore, AllAfter, AreAscending}
use Rattle.urpf_base.specs.declared.cells.CellChange.{CellChange}

pub AllAfter-push : (p : Block) (xs : List CellChange) (x : CellChange) → AllAfter p xs → IsBefore p x.prefix
    → AllAfter p (xs ++ x ∷ [])
AllAfter-push p [] x after before = (before, tt)
AllAfter-push p (y ∷ ys) x after before = (after.0, AllAfter-push p ys x after.1 before)

pub AreAscending-push : (xs : List CellChange) (x : CellChange) → AreAscending xs → AllBefore xs x.prefix
    → AreAscending (xs ++ x ∷ [])
AreAscending-push [] x ascending before = (tt, tt)
AreAscending-push (y ∷ ys) x ascending before =
    (AllAfter-push y.prefix ys x ascending.0 before.0, AreAscending-push ys x ascending.1 before.1)
