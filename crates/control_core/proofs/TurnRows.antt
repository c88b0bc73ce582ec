-- The rows of a session in the engine, turn by turn.
use Rattle.std.proofs.Common.{◌≡◌, ℕ, sym, subst}
use Rattle.adj_rib.specs.Routes.{Routes}
use Rattle.rpf_plain.specs.Engine.{EngineState}
use Rattle.rpf_plain.specs.World.{IsConfigured, Roles}
use Rattle.urpf_base.specs.declared.sessions.SessionConfig.{SessionConfig}
use Rattle.control_core.specs.declared.peering.Peering.{Peering}
use Rattle.control_core.specs.EngineRows.{HasSession, RowsFollow}
use Rattle.control_core.proofs.Logs.{follow-trans, held_after}

-- a session is still ready where its rows followed
pub ready_still : (iface : ℕ) (before after : Routes) (old new : EngineState) → RowsFollow iface before after old new
    → HasSession iface before old → HasSession iface after new
ready_still iface before after old new follows ready = record {
  configured = subst (λ (rs : Roles). IsConfigured rs iface) (sym follows.others.roles) ready.configured;
  held = held_after iface before after old new follows ready.held;
}

pub ready_after : (old new : Peering) (before after : EngineState) → new.session.config ≡ old.session.config
    → RowsFollow old.session.config.iface old.rib new.rib before after
    → HasSession old.session.config.iface old.rib before → HasSession new.session.config.iface new.rib after
ready_after old new before after config follows ready =
    subst (λ (k : SessionConfig). HasSession k.iface new.rib after) (sym config)
    (ready_still old.session.config.iface old.rib new.rib before after follows ready)

pub rows_then : (first old new : Peering) (begun before after : EngineState)
    → old.session.config ≡ first.session.config
    → RowsFollow first.session.config.iface first.rib old.rib begun before
    → RowsFollow old.session.config.iface old.rib new.rib before after
    → RowsFollow first.session.config.iface first.rib new.rib begun after
rows_then first old new begun before after config so_far one =
    follow-trans first.session.config.iface first.rib old.rib new.rib begun before after so_far
    (subst (λ (k : SessionConfig). RowsFollow k.iface old.rib new.rib before after) config one)
