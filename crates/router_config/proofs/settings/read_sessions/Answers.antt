use Rattle.std.proofs.Common.{map, ap, ◌∙◌, [], ◌∷◌, ◌++◌}
use Rattle.toml.specs.View.{view}
use Rattle.router_config.specs.Settings.{session_of}
use Rattle.router_config.proofs.Found.{filter_map-none, filter_map-some}
use Rattle.router_config.proofs.settings.read_sessions.Goals as goal

pub loop-session-preserved-in_default : goal.loop-session-preserved-in_default
loop-session-preserved-in_default c =
    let l = c.loop-session in
    let gives = session_of (map view c.args.interfaces.now) in
    l.invariant
    ∙ filter_map-none gives c.args.sessions.now l.session-index c.session-item.result c.loop-session-test.true
    c.session-item.is c.in_default.ensures

pub loop-session-preserved : goal.loop-session-preserved
loop-session-preserved c =
    let l = c.loop-session in
    let gives = session_of (map view c.args.interfaces.now) in
    c.in-Ok.ensures.items
    ∙ ap (λ read. read ++ c.in-Some.session ∷ []) l.invariant
    ∙ filter_map-some gives c.args.sessions.now l.session-index c.session-item.result c.in-Some.session
    c.loop-session-test.true c.session-item.is c.in-Some.ensures
