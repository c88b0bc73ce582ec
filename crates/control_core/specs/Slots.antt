-- The slots of the feeds, one for each session, and what a pull leaves in one. Our own choice.
use Rattle.std.specs.Prelude.{◌≡◌, ℕ, Bool, true, false, List, Option, Some, None, Result, IsOk}
use Rattle.urpf_base.specs.Faults.{CountsFault}
use Rattle.feed_io.specs.Events.{Event}
use Rattle.control_core.specs.declared.limits.Limits.{Limits}
use Rattle.control_core.specs.declared.limits.RunFault.{RunFault}
use Rattle.control_core.specs.Pulls.{Pull, met_end}
use Rattle.control_core.specs.States.{PeerState}

-- what stands in the slot of a feed after a pull: nothing where the pull met its end
abbrev pub slot_after : {F : Type 0} → Bool → F → Option F
slot_after true feed = None
slot_after false feed = Some feed

-- a pull of an empty slot does nothing
pub record PullsNone {F : Type 0} (slot : Option F) (old_held new_held : Option (List ℕ))
    (result : Result (Unit {0}) RunFault) (old new : PeerState) : Type 0 where
  pub empty : slot ≡ None
  pub done : IsOk result
  pub wrote : new_held ≡ old_held
  pub kept : new ≡ old

-- a pull of a feed, which goes out of its slot where its end was met
pub record PullsFeed {F : Type 0} (left : F → Option (List Event)) (count : Option ℕ) (limits : Limits) (feed : F)
    (slot : Option F) (old_held new_held : Option (List ℕ)) (result : Result (Unit {0}) RunFault)
    (old new : PeerState) : Type 0 where
  pub next : F
  pub is : slot ≡ slot_after (met_end old new) next
  pub pull : Pull count limits (left feed) (left next) old_held new_held result old new

-- a pull of what stands in a slot
abbrev pub PullsSlot : {F : Type 0} → (F → Option (List Event)) → Option ℕ → Limits → Option F → Option F
    → Option (List ℕ) → Option (List ℕ) → Result (Unit {0}) RunFault → PeerState → PeerState → Type 0
PullsSlot left count limits None slot old_held new_held result old new =
    PullsNone slot old_held new_held result old new
PullsSlot left count limits (Some feed) slot old_held new_held result old new =
    PullsFeed left count limits feed slot old_held new_held result old new

-- the faults of the feed in a slot are counted; where it went out it had not failed, and none comes in
abbrev pub CountsSlot : {F : Type 0} → (F → ℕ) → Type 0 → Option F → Option F → Type 0
CountsSlot faults failed None None = failed → ⊥
CountsSlot faults failed None (Some next) = ⊥
CountsSlot faults failed (Some feed) None = failed → ⊥
CountsSlot faults failed (Some feed) (Some next) = CountsFault failed (faults feed) (faults next)
