use Rattle.std.proofs.Common.{◌↔◌, ◌⊎◌, ℕ}
use Rattle.urpf_base.specs.Masks.{InMask}
use Rattle.rpf_plain.specs.Kept.{each_row}
use Rattle.rpf_plain.specs.Walks.{IsReached, Reaches, SomeRow}
use Rattle.rpf_plain.proofs.one_cell.reaching.Given as goal

abbrev pub invariant-loop-row : goal.invariant-loop-row
invariant-loop-row l =
    let all = each_row l.rows in
    (i : ℕ) → (InMask l.ifaces i ⊎ SomeRow (IsReached all l.origin i) l.row-iterator) ↔ Reaches all l.origin i
