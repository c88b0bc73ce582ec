use Rattle.std.proofs.Common.{◌≡◌, ◌+◌}
use Rattle.rpf_plain.specs.Rows.{repeats}
use Rattle.rpf_plain.specs.declared.rows.Row.{Row}
use Rattle.control_core.specs.EngineRows.{KeepsSets, rows_of, session_rows}
use Rattle.control_core.proofs.row_updates.drop_rows.Given as goal

abbrev pub invariant-loop-prefix : goal.invariant-loop-prefix
invariant-loop-prefix g l = record {
  taken : (row : Row) → repeats l.sets.world.rows row + repeats (session_rows l.iface l.rib) row
      ≡ repeats l.initial.sets.world.rows row + repeats (rows_of l.iface l.prefix-iterator) row;
  others : KeepsSets l.initial.sets l.sets;
}
