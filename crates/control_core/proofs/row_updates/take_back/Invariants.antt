use Rattle.std.proofs.Common.{vec_len}
use Rattle.adj_rib.specs.Routes.{Routes}
use Rattle.rpf_plain.specs.Engine.{EngineState}
use Rattle.control_core.specs.EngineRows.{IsLogged, IsOpenLog}
use Rattle.control_core.proofs.row_updates.take_back.Given as goal

abbrev pub invariant-loop-change : goal.invariant-loop-change
invariant-loop-change g l = record {
  logged : (before : Routes) (begun : EngineState)
      → IsLogged l.iface l.origin l.initial.log.items before l.initial.rib begun l.initial.sets
      → IsLogged l.iface l.origin l.log.items before l.rib begun l.sets;
  unfinished : IsOpenLog l.iface l.origin l.log.items l.rib l.sets;
}

abbrev pub decreases-loop-change : goal.decreases-loop-change
decreases-loop-change g l = vec_len l.log
