-- What one turn of a session with its feed does. Our own choice, over the definitions of items and their effects.
use Rattle.std.specs.Prelude.{◌≡◌, ℕ, ◌+◌, ◌<◌, ◌≤◌, true, List, [], ◌∷◌, ◌++◌, Option, Result, Ok, Err}
use Rattle.bgp_wire.specs.Frames.{IsShort}
use Rattle.feed_io.specs.Events.{Event}
use Rattle.session_fsm.specs.declared.items.Effect.{Effect}
use Rattle.control_core.specs.declared.limits.Limits.{Limits}
use Rattle.control_core.specs.declared.limits.RunFault.{RunFault}
use Rattle.control_core.specs.declared.limits.RunFault.TheVariants.{ReadFault, WriteFault, ItemLimit, OctetLimit}
use Rattle.control_core.specs.declared.limits.RunFault.TheVariants.{OutOfMemory}
use Rattle.control_core.specs.States.{PeerState}
use Rattle.control_core.specs.declared.peering.Turn.{Turn}
use Rattle.control_core.specs.declared.peering.Turn.TheVariants.{Took, Octets, End}
use Rattle.control_core.specs.Items.{IsRest}
use Rattle.control_core.specs.History.{StandsFor}
use Rattle.control_core.specs.ItemSteps.{reset_of}
use Rattle.control_core.specs.FeedCalls.{Gave, IsEmptied}

-- a fault of the feed of the session of this number, or want of memory
abbrev pub IsTurnFault : ℕ → RunFault → Type 0
IsTurnFault number (ReadFault session) = session ≡ number
IsTurnFault number WriteFault = ⊥
IsTurnFault number (ItemLimit session) = ⊥
IsTurnFault number (OctetLimit session) = session ≡ number
IsTurnFault number OutOfMemory = Unit {0}

-- memory did not run out
abbrev pub HadMemory : {T : Type 0} → Result T RunFault → Type 0
HadMemory (Ok x) = Unit {0}
HadMemory (Err (ReadFault session)) = Unit {0}
HadMemory (Err WriteFault) = Unit {0}
HadMemory (Err (ItemLimit session)) = Unit {0}
HadMemory (Err (OctetLimit session)) = Unit {0}
HadMemory (Err OutOfMemory) = ⊥

-- what the answer of a turn says of the effects of the items that it took, and of the events so far
abbrev pub Shows : Result Turn RunFault → List Effect → List Event → Option (List Event) → Option (List Event) → Type 0
Shows (Ok (Took reset)) effects events old new = (effect : Effect) × (effects ≡ effect ∷ []) × (reset ≡ reset_of effect)
Shows (Ok Octets) effects events old new = effects ≡ []
Shows (Ok (End rest)) effects events old new = (effects ≡ []) × IsRest events rest × IsEmptied old new
Shows (Err fault) effects events old new = effects ≡ []

-- the feed gave events and items of them were taken, and the session stands for these too
pub record Turned (events : List Event) (effects : List Effect) (old_left new_left : Option (List Event))
    (result : Result Turn RunFault) (new : PeerState) : Type 0 where
  pub gave : List Event
  pub more : List Effect
  pub told : Gave old_left gave new_left
  pub stands : StandsFor (events ++ gave) (effects ++ more) new
  pub shows : Shows result more (events ++ gave) old_left new_left

-- the items and octets that were taken, by the answer of a turn; a feed is asked only where the octets held have no
-- item
abbrev pub Counts : Result Turn RunFault → PeerState → PeerState → Limits → Type 0
Counts (Ok (Took reset)) old new limits =
    (new.session.items ≡ old.session.items + 1) × (new.octets ≡ old.octets) × (new.ended ≡ old.ended)
Counts (Ok Octets) old new limits =
    (new.session.items ≡ old.session.items) × (old.octets < new.octets) × (new.octets ≤ limits.octets)
    × (new.ended ≡ old.ended)
Counts (Ok (End rest)) old new limits =
    (new.session.items ≡ old.session.items) × (new.ended ≡ true) × (new.octets < limits.octets) × IsShort new.held
Counts (Err (ReadFault session)) old new limits =
    (new.session.items ≡ old.session.items) × (new.ended ≡ old.ended) × (new.octets < limits.octets) × IsShort new.held
Counts (Err WriteFault) old new limits = ⊥
Counts (Err (ItemLimit session)) old new limits = ⊥
Counts (Err (OctetLimit session)) old new limits =
    (new.session.items ≡ old.session.items) × (new.ended ≡ old.ended) × (limits.octets ≤ new.octets) × IsShort new.held
    × (new.octets ≡ old.octets)
Counts (Err OutOfMemory) old new limits = (new.session.items ≡ old.session.items) × (new.octets ≡ old.octets)
