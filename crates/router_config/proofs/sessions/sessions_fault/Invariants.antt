use Rattle.std.proofs.Common.{◌≡◌, map}
use Rattle.toml.specs.View.{view}
use Rattle.router_config.proofs.Walk.{by_place, fault_from}
use Rattle.router_config.proofs.sessions.sessions_fault.Given as goal

abbrev pub invariant-loop-index : goal.invariant-loop-index
invariant-loop-index l =
    fault_from (by_place (map view l.interfaces)) l.sessions 0
    ≡ fault_from (by_place (map view l.interfaces)) l.sessions l.index
