-- What one item does to a session and to its routes (RFC 4271, sections 3.2 and 8; RFC 4486, section 4).
use Rattle.std.specs.Prelude.{◌≡◌, List, [], ◌∷◌, ◌++◌, Option, Some, None}
use Rattle.urpf_base.specs.RouteUpdates.{RouteUpdate}
use Rattle.urpf_base.specs.declared.sessions.ResetCause.{ResetCause}
use Rattle.adj_rib.specs.Routes.{Routes}
use Rattle.session_fsm.specs.declared.items.Effect.{Effect}
use Rattle.session_fsm.specs.declared.items.Effect.TheVariants.{Nothing, Advanced, Reset, Changes}
use Rattle.session_fsm.specs.declared.items.Item.{Item}
use Rattle.session_fsm.specs.declared.items.Item.TheVariants.{Up, Message, HeaderFault, Down, Elapsed}
use Rattle.session_fsm.specs.Table.{Outcome, SessionState, Step}
use Rattle.control_core.specs.Effects.{HoldsAll}
use Rattle.control_core.specs.Runs.{Limited}

-- the cause of an effect that is a reset
abbrev pub reset_of : Effect → Option ResetCause
reset_of Nothing = None
reset_of Advanced = None
reset_of (Reset cause) = Some cause
reset_of (Changes update) = None

-- an outcome came to pass: the session has its state, the routes are those behind its effect, and its reset is told
pub record Came (outcome : Outcome) (before : List Effect) (new : SessionState) (routes : Routes)
    (reset : Option ResetCause) : Type 0 where
  pub state : new.state ≡ outcome.0
  pub holds : HoldsAll (before ++ outcome.1 ∷ []) routes
  pub told : reset ≡ reset_of outcome.1

-- the row of an item came to pass, within the maximum of prefixes
pub record TookRow (old : SessionState) (item : Item) (before : List Effect) (new : SessionState) (routes : Routes)
    (reset : Option ResetCause) : Type 0 where
  pub row : Outcome
  pub step : Step old.config old.state item row
  pub outcome : Outcome
  pub limited : Limited old.config.max before row outcome
  pub came : Came outcome before new routes reset

-- an UPDATE in a session of this state came to pass, within the maximum of prefixes
pub record Changed (old : SessionState) (update : RouteUpdate) (before : List Effect) (new : SessionState)
    (routes : Routes) (reset : Option ResetCause) : Type 0 where
  pub outcome : Outcome
  pub limited : Limited old.config.max before (old.state, Changes update) outcome
  pub came : Came outcome before new routes reset

-- the item is a message, as an UPDATE is
abbrev pub IsMessageItem : Item → Type 0
IsMessageItem Up = ⊥
IsMessageItem (Message kind body) = Unit {0}
IsMessageItem (HeaderFault sub) = ⊥
IsMessageItem Down = ⊥
IsMessageItem (Elapsed seconds) = ⊥
