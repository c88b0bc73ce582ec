use Rattle.std.proofs.Common.{◌≡◌, ◌↔◌, ◌⊎◌, ℕ, IsTrue}
use Rattle.std.specs.List.{AllByRecursion}
use Rattle.urpf_base.specs.Address.{Block}
use Rattle.urpf_base.specs.Masks.{InMask}
use Rattle.rpf_plain.specs.Ahead.{GoesOver, InPrefixOrder, IsBehind, NotBefore}
use Rattle.rpf_plain.specs.Cells.{cell_at, empty_cell}
use Rattle.rpf_plain.specs.Kept.{each_row}
use Rattle.rpf_plain.specs.Walks.{Hears, InListA, InSetZ, IsFilled, IsForSetZ, IsListed, SomeRow}
use Rattle.rpf_plain.proofs.cells.decided.Given as goal

abbrev pub invariant-loop-row : goal.invariant-loop-row
invariant-loop-row l =
    let all = each_row l.rows in
    record {
      over : GoesOver all l.ahead;
      order : InPrefixOrder l.row-iterator;
      none_before : AllByRecursion (λ row. NotBefore l.ahead.at row.prefix) l.row-iterator;
      beside : l.cells.at ≡ l.ahead.at;
      fresh : (p : Block) → IsBehind l.ahead.at p → cell_at l.cells.cells p ≡ empty_cell;
      f : (p : Block) (i : ℕ) → (InMask (cell_at l.cells.cells p).f i ⊎ Hears l.row-iterator i p) ↔ Hears all i p;
      a : (p : Block) (i : ℕ)
          → (InMask (cell_at l.cells.cells p).a i ⊎ SomeRow (IsListed all l.customers i p) l.row-iterator)
          ↔ InListA all l.customers i p;
      z : (p : Block)
          → (IsTrue (cell_at l.cells.cells p).z ⊎ SomeRow (IsForSetZ all l.customers p) l.row-iterator)
          ↔ InSetZ all l.customers p;
      filled : IsFilled l.cells.cells;
    }
