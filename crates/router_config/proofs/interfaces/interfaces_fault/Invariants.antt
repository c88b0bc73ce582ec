use Rattle.std.proofs.Common.{◌≡◌}
use Rattle.router_config.specs.Rules.{interface_rules}
use Rattle.router_config.proofs.Walk.{fault_from}
use Rattle.router_config.proofs.interfaces.interfaces_fault.Given as goal

abbrev pub invariant-loop-index : goal.invariant-loop-index
invariant-loop-index l =
    fault_from interface_rules l.interfaces 0 ≡ fault_from interface_rules l.interfaces l.index
