use Rattle.std.proofs.Common.{take}
use Rattle.control_core.specs.Table.{HoldsRoutes}
use Rattle.urpf_cli.specs.Session.{updates_of}
use Rattle.urpf_cli.proofs.check.take_all.Given as goal

abbrev pub invariant-loop-item : goal.invariant-loop-item
invariant-loop-item l = HoldsRoutes (updates_of (take l.item-index l.items)) l.rib
