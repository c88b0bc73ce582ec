use Rattle.std.proofs.Common.{◌≡◌, map, drop}
use Rattle.toml.specs.View.{view}
use Rattle.router_config.specs.Settings.{kind_at}
use Rattle.router_config.proofs.settings.kind_at.Given as goal

abbrev pub invariant-loop-interface : goal.invariant-loop-interface
invariant-loop-interface l =
    kind_at (map view l.interfaces) l.number ≡ kind_at (map view (drop l.interface-index l.interfaces)) l.number
