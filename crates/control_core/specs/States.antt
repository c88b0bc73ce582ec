-- A session and a control, as contracts see them (RFC 4271, sections 3.2 and 8).
use Rattle.std.specs.Prelude.{ℕ, Bool, List}
use Rattle.urpf_base.specs.declared.kinds.Kind.{Kind}
use Rattle.adj_rib.specs.Routes.{Routes}
use Rattle.rpf_plain.specs.Engine.{EngineState}
use Rattle.session_fsm.specs.Table.{SessionState}
use Rattle.control_core.specs.declared.limits.Limits.{Limits}
use Rattle.control_core.specs.Worlds.{Position}

-- a session: its number, its configuration with its state and the items that it took, its Adj-RIB-In, the octets that
-- it holds, whether more octets belong to its connection, how many its feed gave, and whether that came to its end
pub record PeerState : Type 0 where
  pub number : ℕ
  pub session : SessionState
  pub routes : Routes
  pub held : List ℕ
  pub receiving : Bool
  pub octets : ℕ
  pub ended : Bool

-- a control: its sessions, its interfaces and how often they were edited, its engine, the mark of each publication, its
-- limits, and whether memory ran out before
pub record ControlState : Type 0 where
  pub peers : List PeerState
  pub kinds : List (ℕ × Kind)
  pub edits : ℕ
  pub engine : EngineState
  pub marks : List Position
  pub limits : Limits
  pub exhausted : Bool
