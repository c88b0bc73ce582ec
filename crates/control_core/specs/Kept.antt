-- What always holds of a control: its engine has the rows of its sessions and the roles of its interfaces.
-- Our own choice.
use Rattle.std.specs.Prelude.{◌≡◌, ℕ, ◌+◌, ◌≤◌, List, [], ◌∷◌, ◌++◌}
use Rattle.std.specs.List.{AllByRecursion}
use Rattle.urpf_base.specs.Lists.{AreDistinct}
use Rattle.urpf_base.specs.declared.kinds.Kind.{Kind}
use Rattle.rpf_plain.specs.Engine.{EngineState}
use Rattle.rpf_plain.specs.Rows.{AreSameRows}
use Rattle.rpf_plain.specs.World.{IsConfigured, roles_of}
use Rattle.rpf_plain.specs.declared.rows.Row.{Row}
use Rattle.control_core.specs.declared.limits.Limits.{Limits}
use Rattle.control_core.specs.declared.limits.TheConstants.{ITEM_LIMIT}
use Rattle.control_core.specs.EngineRows.{session_rows}
use Rattle.control_core.specs.States.{PeerState}

-- the rows of all sessions: one for each session and route
abbrev pub all_rows : List PeerState → List Row
all_rows [] = []
all_rows (peer ∷ peers) = session_rows peer.session.config.iface peer.routes ++ all_rows peers

-- the sessions have their numbers, from this one on
abbrev pub AreNumbered : ℕ → List PeerState → Type 0
AreNumbered number [] = Unit {0}
AreNumbered number (peer ∷ peers) = (peer.number ≡ number) × AreNumbered (number + 1) peers

-- the engine has the rows of the sessions and no others, the roles of the interfaces, and each of its pairs once; the
-- interface of each session is configured
pub record IsKept (peers : List PeerState) (kinds : List (ℕ × Kind)) (engine : EngineState)
    (limits : Limits) : Type 0 where
  pub rows : AreSameRows engine.world.rows (all_rows peers)
  pub roles : engine.world.roles ≡ roles_of kinds
  pub pairs : AreDistinct engine.world.pairs
  pub configured : AllByRecursion (λ p. IsConfigured engine.world.roles p.session.config.iface) peers
  pub numbered : AreNumbered 0 peers
  pub few : limits.items ≤ ITEM_LIMIT
