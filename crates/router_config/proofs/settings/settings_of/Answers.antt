use Rattle.toml.specs.View.{view}
use Rattle.router_config.proofs.Configured.{settings_configured}
use Rattle.router_config.proofs.settings.settings_of.Goals as goal

pub new-requires : goal.new-requires
new-requires c =
    let document = view c.args.document.now in
    rw (c.in_ok-kinds.ensures, c.in_ok-sessions.ensures, c.interfaces_of-interfaces.ensures, c.sessions_of.ensures)
    (settings_configured document c.requires)
