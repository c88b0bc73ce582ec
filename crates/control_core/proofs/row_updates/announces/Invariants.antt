use Rattle.urpf_base.specs.Address.{Block}
use Rattle.urpf_base.specs.Lists.{Has}
use Rattle.control_core.proofs.row_updates.announces.Given as goal

abbrev pub invariant-loop-announced : goal.invariant-loop-announced
invariant-loop-announced l = record {
  ahead : Has l.update.announced l.prefix → Has l.announced-iterator l.prefix;
  part : (p : Block) → Has l.announced-iterator p → Has l.update.announced p;
}
