use Rattle.std.proofs.Common.{◌≡◌, map, take}
use Rattle.std.specs.List.{filter_map}
use Rattle.toml.specs.View.{view}
use Rattle.router_config.specs.Settings.{session_of}
use Rattle.router_config.proofs.settings.read_sessions.Given as goal

abbrev pub invariant-loop-session : goal.invariant-loop-session
invariant-loop-session l =
    l.read.items ≡ filter_map (session_of (map view l.interfaces)) (map view (take l.session-index l.sessions))
