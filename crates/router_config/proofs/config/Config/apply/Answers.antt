use Rattle.std.proofs.Common.{sym, subst}
use Rattle.router_config.specs.Configured.{AreConfigured}
use Rattle.router_config.proofs.Configured.{edited_configured}
use Rattle.router_config.proofs.config.Config.apply.Goals as goal

pub invariant_of-self : goal.invariant_of-self
invariant_of-self c =
    let sessions = c.self.inside.sessions.items in
    subst (λ rows. AreConfigured (record { interfaces = rows; sessions = sessions })) (sym c.apply.ensures)
    (edited_configured c.args.edit.now c.self.inside.kinds sessions c.self.invariant)
