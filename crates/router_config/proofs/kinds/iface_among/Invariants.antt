use Rattle.std.proofs.Common.{◌≡◌, drop}
use Rattle.router_config.specs.Kinds.{iface_in}
use Rattle.router_config.proofs.kinds.iface_among.Given as goal

abbrev pub invariant-loop-row : goal.invariant-loop-row
invariant-loop-row l = iface_in l.rows l.number ≡ iface_in (drop l.row-index l.rows) l.number
