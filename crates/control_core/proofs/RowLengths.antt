-- One row more or less.
use Rattle.std.proofs.Common.{◌≡◌, ℕ, ◌+◌, cond, ◌∷◌, length, arith}
use Rattle.std.specs.Ordering.{is_eq}
use Rattle.rpf_plain.proofs.Counted.{same_length}
use Rattle.rpf_plain.specs.Engine.{AddsRow, EngineState}
use Rattle.rpf_plain.specs.Rows.{row_order}
use Rattle.rpf_plain.specs.declared.rows.Row.{Row}

-- one where both rows are the same, and else none
abbrev pub hit : Row → Row → ℕ
hit row other = cond (is_eq (row_order row other)) 1 0

-- where a row is added the list is one longer
pub adds_length : {row : Row} {old new : EngineState} → AddsRow row old new
    → length new.world.rows ≡ length old.world.rows + 1
adds_length {row} {old} {new} adds = omega (arith, same_length new.world.rows (row ∷ old.world.rows) adds.rows)
