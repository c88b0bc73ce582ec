use Rattle.std.proofs.Common.{◌↔◌, ◌⊎◌, ℕ}
use Rattle.urpf_base.specs.Masks.{InMask}
use Rattle.rpf_plain.specs.Kept.{each_row}
use Rattle.rpf_plain.specs.Walks.{Hears}
use Rattle.rpf_plain.proofs.one_cell.hearing.Given as goal

abbrev pub invariant-loop-row : goal.invariant-loop-row
invariant-loop-row l =
    (i : ℕ) → (InMask l.ifaces i ⊎ Hears l.row-iterator i l.prefix) ↔ Hears (each_row l.rows) i l.prefix
