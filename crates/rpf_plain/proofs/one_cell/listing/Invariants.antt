use Rattle.std.proofs.Common.{◌↔◌, ◌⊎◌, ℕ}
use Rattle.urpf_base.specs.Masks.{InMask}
use Rattle.rpf_plain.specs.Kept.{each_row}
use Rattle.rpf_plain.specs.Walks.{InListA, IsListed, SomeRow}
use Rattle.rpf_plain.proofs.one_cell.listing.Given as goal

abbrev pub invariant-loop-row : goal.invariant-loop-row
invariant-loop-row l =
    let all = each_row l.rows in
    (i : ℕ) → (InMask l.ifaces i ⊎ SomeRow (IsListed all l.customers i l.prefix) l.row-iterator)
    ↔ InListA all l.customers i l.prefix
