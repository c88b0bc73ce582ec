use Rattle.std.proofs.Common.{◌≡◌, map}
use Rattle.toml.specs.View.{view}
use Rattle.router_config.specs.Settings.{rows_below}
use Rattle.router_config.proofs.settings.kinds_of.Given as goal

abbrev pub invariant-loop-number : goal.invariant-loop-number
invariant-loop-number l = l.kinds ≡ rows_below (map view l.interfaces) l.number
