use Rattle.std.proofs.Common.{List, [], subst, sym, ℕ}
use Rattle.rpf_plain.specs.Cells.{IsTable}
use Rattle.rpf_plain.specs.Kept.{all_rows}
use Rattle.rpf_plain.specs.World.{roles_of, world_for}
use Rattle.rpf_plain.specs.declared.rows.Row.{Row}
use Rattle.rpf_plain.proofs.Drained.{no_rows}
use Rattle.rpf_plain.proofs.plain.PlainEngine.new.Goals as goal

pub invariant_of-result : goal.invariant_of-result
invariant_of-result c _ =
    subst (λ (rows : List (Row × ℕ)). IsTable (world_for c.in_ok-kinds.kinds (all_rows rows) c.new-2.result) c.new-3.result)
    (sym c.new.ensures)
    (subst (IsTable (world_for c.in_ok-kinds.kinds [] c.new-2.result)) (sym c.new-3.ensures)
    (no_rows (roles_of c.in_ok-kinds.kinds) c.new-2.result))
