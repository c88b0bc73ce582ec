use Rattle.std.proofs.Common.{◌↔◌, ◌⊎◌, map}
use Rattle.std.specs.FinMap.{entries}
use Rattle.urpf_base.specs.Address.{Block}
use Rattle.urpf_base.specs.Cells.{AllBefore, AreAscending}
use Rattle.urpf_base.specs.Lists.{Has}
use Rattle.urpf_base.specs.declared.cells.Cell.{Cell}
use Rattle.prefix_map.specs.Beside.{beside}
use Rattle.prefix_map.specs.Order.{IsAscending}
use Rattle.rpf_plain.proofs.Changed.{HasChange, change}
use Rattle.rpf_plain.proofs.differences.differences.Given as goal

abbrev pub invariant-loop-prefix : goal.invariant-loop-prefix
invariant-loop-prefix l = record {
  ascending : AreAscending l.changes;
  behind : (q : Block) → Has (map (λ e. e.0) l.prefix-iterator) q → AllBefore l.changes q;
  left : IsAscending (map (λ e. e.0) l.prefix-iterator);
  each : (p : Block) (c : Cell) → (Has l.changes (change p c) ⊎ HasChange l.prefix-iterator p c)
      ↔ HasChange (beside (entries l.old) (entries l.new)) p c;
}
