-- What holds of every configuration. Our own choice, but for the hold time.
use Rattle.std.specs.Prelude.{◌≡◌, ◌⊎◌, ℕ, ◌≤◌, length, IsSome, List}
use Rattle.std.specs.List.{AllByRecursion}
use Rattle.urpf_base.specs.declared.sessions.SessionConfig.{SessionConfig}
use Rattle.router_config.specs.Kinds.{Row, AllBelow, kind_in}
use Rattle.router_config.specs.Settings.{Settings}

-- there is an interface with this number
abbrev pub IsConfigured : List Row → ℕ → Type 0
IsConfigured rows number = IsSome (kind_in rows number)

-- the session is on an interface that is there, and its numbers are within their bounds; its hold time is 0, or 3
-- seconds or more (RFC 4271, section 4.2)
pub record IsSessionConfig (rows : List Row) (session : SessionConfig) : Type 0 where
  pub interface : IsConfigured rows session.iface
  pub peer : (1 ≤ session.peer_as) × (session.peer_as ≤ 4294967295)
  pub hold : (session.hold ≡ 0) ⊎ ((3 ≤ session.hold) × (session.hold ≤ 65535))
  pub most : (1 ≤ session.max) × (session.max ≤ 4000000)

-- there are at most 64 interfaces, with numbers below 64, and at most 128 sessions
pub record AreConfigured (config : Settings) : Type 0 where
  pub interfaces : length config.interfaces ≤ 64
  pub numbers : AllBelow config.interfaces 64
  pub sessions : length config.sessions ≤ 128
  pub each : AllByRecursion (IsSessionConfig config.interfaces) config.sessions
