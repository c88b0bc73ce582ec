use Rattle.std.proofs.Common.{◌↔◌, ◌⊎◌, ℕ, IsTrue}
use Rattle.std.specs.List.{AllByRecursion}
use Rattle.urpf_base.specs.Masks.{InMask}
use Rattle.rpf_plain.specs.Ahead.{GoesOver, InPrefixOrder, NotBefore}
use Rattle.rpf_plain.specs.Kept.{each_row}
use Rattle.rpf_plain.specs.Walks.{InSetA, IsReached, Owns, Reaches, SomeRow, reach_at}
use Rattle.rpf_plain.proofs.origins.reaches.Given as goal

abbrev pub invariant-loop-row : goal.invariant-loop-row
invariant-loop-row l =
    let all = each_row l.rows in
    record {
      over : GoesOver all l.ahead;
      order : InPrefixOrder l.row-iterator;
      none_before : AllByRecursion (λ row. NotBefore l.ahead.at row.prefix) l.row-iterator;
      ifaces : (a i : ℕ) → (InMask (reach_at l.origins.reaches a).ifaces i ⊎ SomeRow (IsReached all a i) l.row-iterator)
          ↔ Reaches all a i;
      own : (a i : ℕ) → (InMask (reach_at l.origins.reaches a).own i ⊎ Owns l.row-iterator a i) ↔ Owns all a i;
      in_set_a : (a : ℕ) → (IsTrue (reach_at l.origins.reaches a).in_set_a ⊎ InSetA l.row-iterator l.customers a)
          ↔ InSetA all l.customers a;
    }
