use Rattle.std.proofs.Common.{◌↔◌, ◌⊎◌, ℕ}
use Rattle.urpf_base.specs.Masks.{InMask}
use Rattle.rpf_plain.specs.Kept.{each_row}
use Rattle.rpf_plain.specs.Walks.{Owns}
use Rattle.rpf_plain.proofs.by_pairs.owning.Given as goal

abbrev pub invariant-loop-row : goal.invariant-loop-row
invariant-loop-row l =
    (i : ℕ) → (InMask l.ifaces i ⊎ Owns l.row-iterator l.origin i) ↔ Owns (each_row l.rows) l.origin i
