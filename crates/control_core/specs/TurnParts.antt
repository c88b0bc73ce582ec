-- What the parts of a turn do. Our own choice, over the definitions of items and their effects.
use Rattle.std.specs.Prelude.{◌≡◌, ◌+◌, List, [], ◌∷◌, ◌++◌, Option, Result, Ok, Err, OnOk, OnErr}
use Rattle.urpf_base.specs.declared.outside.OutOfMemory as memory
use Rattle.urpf_base.specs.declared.sessions.ResetCause.{ResetCause}
use Rattle.feed_io.specs.Events.{Event}
use Rattle.session_fsm.specs.declared.items.Effect.{Effect}
use Rattle.control_core.specs.declared.limits.RunFault.{RunFault}
use Rattle.control_core.specs.declared.limits.RunFault.TheVariants.{OutOfMemory}
use Rattle.control_core.specs.States.{PeerState}
use Rattle.control_core.specs.declared.peering.Turn.{Turn}
use Rattle.control_core.specs.declared.peering.Turn.TheVariants.{Took, Octets, End}
use Rattle.control_core.specs.History.{StandsFor}
use Rattle.control_core.specs.ItemSteps.{reset_of}
use Rattle.control_core.specs.Turns.{HadMemory}

-- one item of these events was taken, and its effect is told
pub record TookItem (events : List Event) (effects : List Effect) (new : PeerState)
    (result : Result Turn RunFault) : Type 0 where
  pub effect : Effect
  pub stands : StandsFor events (effects ++ effect ∷ []) new
  pub told : result ≡ Ok (Took (reset_of effect))

-- what a turn answers that took an item
abbrev pub answer_of : Result (Option ResetCause) memory.OutOfMemory → Result Turn RunFault
answer_of (Ok reset) = Ok (Took reset)
answer_of (Err failed) = Err OutOfMemory

-- one item was counted, and no octet
pub record CountsItem (old new : PeerState) : Type 0 where
  pub items : new.session.items ≡ old.session.items + 1
  pub octets : new.octets ≡ old.octets
  pub ended : new.ended ≡ old.ended

-- an item was taken, or memory ran out
abbrev pub IsItem : Result Turn RunFault → Type 0
IsItem (Ok (Took reset)) = Unit {0}
IsItem (Ok Octets) = ⊥
IsItem (Ok (End rest)) = ⊥
IsItem (Err fault) = fault ≡ OutOfMemory

-- a call of a session that takes one item: of the octets that it held where no event came, and else of that event;
-- where memory ran out nothing is changed
pub record TakesOne (gave : List Event) (old new : PeerState) (result : Result Turn RunFault) : Type 0 where
  pub took : (events : List Event) (effects : List Effect) → StandsFor events effects old → HadMemory result
      → TookItem (events ++ gave) effects new result
  pub counts : OnOk result (CountsItem old new)
  pub kept : OnErr result (new ≡ old)
  pub item : IsItem result
  pub number : new.number ≡ old.number
  pub config : new.session.config ≡ old.session.config
