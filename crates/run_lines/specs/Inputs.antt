-- What a run reads: its configuration, its table of pairs and, of each session, all that its feed gives (RFC 4271,
-- sections 3.2 and 8).
use Rattle.std.specs.Prelude.{◌≡◌, ℕ, List, [], length, map, Option, Some, None}
use Rattle.std.specs.List.{AllZip}
use Rattle.urpf_base.specs.declared.sessions.SessionConfig.{SessionConfig}
use Rattle.origin_pairs.specs.Pairs.{Pair}
use Rattle.feed_io.specs.Events.{Event}
use Rattle.router_config.specs.Settings.{Settings}
use Rattle.session_fsm.specs.declared.states.State.{State}
use Rattle.control_core.specs.Items.{AreItems, IsRest, Item}
use Rattle.control_core.specs.Runs.{Runs}
use Rattle.control_core.specs.Worlds.{Course, Opening}
use Rattle.roa_irr.specs.Tables.{Table}

-- a session as a whole: its configuration, all events of its feed, the effects of their items, and how many octets are
-- left behind the last of them
pub record Input : Type 0 where
  pub course : Course
  pub rest : ℕ

-- the session is configured so, has these effects of its items, and leaves so many octets
pub record IsInput (config : SessionConfig) (input : Input) : Type 0 where
  pub configured : input.course.config ≡ config
  pub items : List Item
  pub are : AreItems input.course.events items
  pub last : State
  pub runs : Runs config items input.course.effects last
  pub left : IsRest input.course.events input.rest

-- how many items the session has in all
abbrev pub total : Input → ℕ
total input = length input.course.effects

-- a configuration, its table of pairs where there is one, and its sessions as wholes
pub record Run : Type 0 where
  pub config : Settings
  pub table : Option Table
  pub inputs : List Input

-- the pairs that a run begins with, in their order and with repeats
abbrev pub pairs_in : Option Table → List Pair
pairs_in None = []
pairs_in (Some pairs) = pairs.pairs

-- how many records or objects gave no pair
abbrev pub skipped_in : Option Table → ℕ
skipped_in None = 0
skipped_in (Some pairs) = pairs.skipped

-- the interfaces, the sessions and the pairs that a run begins with
abbrev pub opening_of : Run → Opening
opening_of run = record { settings = run.config; pairs = pairs_in run.table }

-- there is one for each session that is configured
abbrev pub IsRun : Run → Type 0
IsRun run = AllZip IsInput run.config.sessions run.inputs

abbrev pub courses_of : Run → List Course
courses_of run = map (λ i. i.course) run.inputs

-- the events of each session's feed
abbrev pub events_of : Run → List (List Event)
events_of run = map (λ i. i.course.events) run.inputs
