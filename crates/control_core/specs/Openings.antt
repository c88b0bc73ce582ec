-- The sessions of a control at its opening. Our own choice.
use Rattle.std.specs.Prelude.{◌≡◌, ℕ, zero, suc, false, List, [], ◌∷◌, map}
use Rattle.std.specs.List.{AllByRecursion}
use Rattle.urpf_base.specs.declared.kinds.Kind.{Kind}
use Rattle.urpf_base.specs.declared.sessions.SessionConfig.{SessionConfig}
use Rattle.router_config.specs.Configured.{IsConfigured}
use Rattle.control_core.specs.Controls.{AllStand, not_begun}
use Rattle.control_core.specs.Kept.{AreNumbered, all_rows}
use Rattle.control_core.specs.States.{PeerState}

-- so many noughts
abbrev pub zeros : ℕ → List ℕ
zeros zero = []
zeros (suc n) = 0 ∷ zeros n

-- each session took no item and has no route, has its number, is on an interface that is configured, and did not meet
-- the end of its feed
pub record AreNew (interfaces : List (ℕ × Kind)) (sessions : List SessionConfig) (peers : List PeerState) : Type 0 where
  pub stand : AllStand (map not_begun sessions) peers
  pub rows : all_rows peers ≡ []
  pub numbered : AreNumbered 0 peers
  pub configured : AllByRecursion (λ p. IsConfigured interfaces p.session.config.iface) peers
  pub unmet : AllByRecursion (λ p. p.ended ≡ false) peers
