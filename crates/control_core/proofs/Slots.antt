-- What a pull of a slot leaves.
use Rattle.std.proofs.Common.{◌≡◌, ◌&&◌, ℕ, ◌≤◌, Bool, true, List, Option, Some, None, Result, Ok, ap, arith, not, refl}
use Rattle.std.proofs.Common.{subst, sym}
use Rattle.feed_io.specs.Events.{Event}
use Rattle.control_core.specs.declared.limits.Limits.{Limits}
use Rattle.control_core.specs.declared.limits.RunFault.{RunFault}
use Rattle.control_core.specs.Pulls.{TakesAtMost}
use Rattle.control_core.specs.Slots.{CountsSlot, PullsSlot, slot_after}
use Rattle.control_core.specs.States.{PeerState}
use Rattle.control_core.proofs.FaultCounts.{counts_none}
use Rattle.control_core.proofs.PullEnds.{pull_after_end}

-- a pull takes no item back
no_fewer : (count : Option ℕ) (old new : PeerState) → TakesAtMost count old new → old.session.items ≤ new.session.items
no_fewer None old new most = most
no_fewer (Some count) old new most = most.0

-- what every pull of a slot keeps of its session
pub record KeepsSession (old new : PeerState) : Type 0 where
  pub number : new.number ≡ old.number
  pub config : new.session.config ≡ old.session.config
  pub items : old.session.items ≤ new.session.items

-- a pull of a slot keeps the session's number and configuration, and takes no item back
pub keeps_session : {F : Type 0} (left : F → Option (List Event)) (count : Option ℕ) (limits : Limits)
    (slot next : Option F) (old_held new_held : Option (List ℕ)) (result : Result (Unit {0}) RunFault)
    (old new : PeerState) → PullsSlot left count limits slot next old_held new_held result old new
    → KeepsSession old new
keeps_session left count limits None next old_held new_held result old new pulls =
    subst (KeepsSession old) (sym pulls.kept) (record {
      number = refl;
      config = refl;
      items = omega arith;
    })
keeps_session left count limits (Some feed) next old_held new_held result old new pulls = record {
  number = pulls.pull.number;
  config = pulls.pull.config;
  items = no_fewer count old new pulls.pull.most;
}

-- the slot of a session that is at its end is left as it is
pub slot_at_end : {F : Type 0} (left : F → Option (List Event)) (count : Option ℕ) (limits : Limits) (slot : Option F)
    (held : Option (List ℕ)) (now : PeerState) → now.ended ≡ true
    → PullsSlot left count limits slot slot held held (Ok tt) now now
slot_at_end left count limits None held now ended = record {
  empty = refl;
  done = refl;
  wrote = refl;
  kept = refl;
}
slot_at_end left count limits (Some feed) held now ended = record {
  next = feed;
  is = ap (λ (b : Bool). slot_after b feed) (sym (ap (λ (b : Bool). not b && b) ended));
  pull = pull_after_end count limits (left feed) held now ended;
}

-- a slot that was left as it is has no fault
pub counts_slot : {F : Type 0} {failed : Type 0} (faults : F → ℕ) (slot : Option F) → (failed → ⊥)
    → CountsSlot faults failed slot slot
counts_slot faults None never = never
counts_slot faults (Some feed) never = counts_none _ _ refl never
