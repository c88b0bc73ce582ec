use Rattle.std.proofs.Common.{◌≡◌, ◌+◌, drop}
use Rattle.rpf_plain.specs.Rows.{repeats}
use Rattle.rpf_plain.specs.declared.rows.Row.{Row}
use Rattle.control_core.specs.EngineRows.{KeepsSets, replaced_rows}
use Rattle.control_core.proofs.row_updates.drop_replaced.Given as goal

abbrev pub invariant-loop-change : goal.invariant-loop-change
invariant-loop-change g l = record {
  taken : (row : Row) → repeats l.sets.world.rows row + repeats (replaced_rows l.iface l.log) row
      ≡ repeats l.initial.sets.world.rows row + repeats (replaced_rows l.iface (drop l.change-index l.log)) row;
  others : KeepsSets l.initial.sets l.sets;
}
