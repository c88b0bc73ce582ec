use Rattle.std.proofs.Common.{Some}
use Rattle.adj_rib.specs.Routes.{Routes}
use Rattle.rpf_plain.specs.Engine.{EngineState}
use Rattle.control_core.specs.EngineRows.{IsLogged, KeepsSets}
use Rattle.control_core.proofs.Walks.{IsUnderWay}
use Rattle.control_core.proofs.row_updates.announce.Given as goal

abbrev pub invariant-loop-prefix : goal.invariant-loop-prefix
invariant-loop-prefix g l = record {
  walk : IsUnderWay l.fn.prefixes l.prefix-iterator (Some l.origin) l.initial.rib l.rib;
  logged : (before : Routes) (engine : EngineState)
      → IsLogged l.iface l.origin l.initial.log.items before l.initial.rib engine l.initial.sets
      → IsLogged l.iface l.origin l.log.items before l.rib engine l.sets;
  sets : KeepsSets l.initial.sets l.sets;
}
