-- Which of some feeds failed.
use Rattle.std.proofs.Common.{◌≡◌, ℕ, List, length, Option, Some, None, Result, Ok, Err, refl, sym}
use Rattle.std.proofs.Common.{ap, subst, ◌∙◌, inl, inr, arith, Bool, true, false}
use Rattle.std.specs.Prelude.{slice_get, IfErr, IsOk, ◌↔◌}
use Rattle.std.proofs.lemmas.List.{length-set}
use Rattle.std.proofs.lemmas.Option.{slice_get_within}
use Rattle.urpf_base.specs.Faults.{CountsFault}
use Rattle.feed_io.specs.Events.{Event}
use Rattle.control_core.specs.Controls.{CountsOne, PullsOne}
use Rattle.control_core.specs.Pulls.{EndsBy}
use Rattle.control_core.specs.Slots.{CountsSlot, PullsSlot}
use Rattle.control_core.specs.States.{ControlState, PeerState}
use Rattle.control_core.specs.declared.limits.Limits.{Limits}
use Rattle.control_core.specs.declared.limits.RunFault.{RunFault}
use Rattle.control_core.specs.declared.limits.RunFault.TheVariants.{OutOfMemory, ReadFault, WriteFault}
use Rattle.control_core.proofs.Places.{get_set, some_at, some_one}
use Rattle.control_core.proofs.Slots.{counts_slot}
use Rattle.run_lines.specs.Runs.{CountEach}
use Rattle.run_lines.proofs.Emptied.{get_other, same_place}

-- a count of faults, where the failures are told in other words
counts_by : (failed other : Type 0) (before now : ℕ) → failed ↔ other → CountsFault failed before now
    → CountsFault other before now
counts_by failed other before now same counts = record {
  later = counts.later;
  kept = λ never. counts.kept (λ is. never (same.0 is));
  rose = λ is. counts.rose (same.1 is);
  once = counts.once;
}

slot_by : {F : Type 0} (faults : F → ℕ) (failed other : Type 0) (slot next : Option F) → failed ↔ other
    → CountsSlot faults failed slot next → CountsSlot faults other slot next
slot_by faults failed other None None same counts = λ is. counts (same.1 is)
slot_by faults failed other None (Some next) same counts = counts
slot_by faults failed other (Some feed) None same counts = λ is. counts (same.1 is)
slot_by faults failed other (Some feed) (Some next) same counts =
    counts_by failed other (faults feed) (faults next) same counts

pub each_by : {F : Type 0} (faults : F → ℕ) (failed other : ℕ → Type 0) (old new : List (Option F))
    → ((s : ℕ) → failed s ↔ other s) → CountEach faults failed old new → CountEach faults other old new
each_by faults failed other old new same counts = record {
  as_many = counts.as_many;
  each = λ s slot next there now.
      slot_by faults (failed s) (other s) slot next (same s) (counts.each s slot next there now);
}

-- a slot that is as it was
slot_kept : {F : Type 0} (faults : F → ℕ) (failed : Type 0) (slot next : Option F) → next ≡ slot → (failed → ⊥)
    → CountsSlot faults failed slot next
slot_kept faults failed slot next same never =
    subst (λ o. CountsSlot faults failed slot o) (sym same) (counts_slot faults slot never)

-- feeds that are not asked do not fail
pub each_none : {F : Type 0} (faults : F → ℕ) (failed : ℕ → Type 0) (feeds : List (Option F))
    → ((s : ℕ) → failed s → ⊥) → CountEach faults failed feeds feeds
each_none faults failed feeds never = record {
  as_many = refl;
  each = λ s slot next there now.
      slot_kept faults (failed s) slot next (some_one next slot (sym now ∙ there)) (never s);
}

-- a slot whose feed did not fail first
slot_then : {F : Type 0} (faults : F → ℕ) (failed : Type 0) (slot mid next : Option F) → CountsSlot faults ⊥ slot mid
    → CountsSlot faults failed mid next → CountsSlot faults failed slot next
slot_then faults failed None None next first later = later
slot_then faults failed None (Some mid) next first later = absurd first
slot_then faults failed (Some feed) None None first later = later
slot_then faults failed (Some feed) None (Some next) first later = absurd later
slot_then faults failed (Some feed) (Some mid) None first later = later
slot_then faults failed (Some feed) (Some mid) (Some next) first later =
    subst (λ (n : ℕ). CountsFault failed n (faults next)) (first.kept (λ never. never)) later

-- none failed first, and then those that are told
pub each_then : {F : Type 0} (faults : F → ℕ) (failed : ℕ → Type 0) (old mid new : List (Option F))
    → CountEach faults (λ s. ⊥) old mid → CountEach faults failed mid new → CountEach faults failed old new
each_then faults failed old mid new first later = record {
  as_many = later.as_many ∙ first.as_many;
  each = λ s slot next there now.
      let between = some_at mid s (omega (arith, slice_get_within old s slot there, first.as_many)) in
      slot_then faults (failed s) slot between.0 next (first.each s slot between.0 there between.1)
      (later.each s between.0 next between.1 now);
}

-- where one feed was asked, it alone may have failed
pub each_of_one : {F : Type 0} (faults : F → ℕ) (failed : ℕ → Type 0) (session : ℕ) (old new : List (Option F))
    → CountsOne faults session (failed session) old new → ((s : ℕ) → failed s → s ≡ session)
    → CountEach faults failed old new
each_of_one faults failed session old new one named = record {
  as_many = ap length one.has ∙ length-set old session one.next;
  each = λ s slot next there now.
      elim (same_place s session) [
        | inl same ↦
            let first : slot ≡ one.slot = some_one slot one.slot
            (sym there ∙ ap (slice_get old) same ∙ one.had) in
            let last : next ≡ one.next = some_one next one.next
            (sym now ∙ ap (slice_get new) same ∙ ap (λ fs. slice_get fs session) one.has
            ∙ get_set old session one.slot one.next one.had) in
            subst (λ (k : ℕ). CountsSlot faults (failed k) slot next) (sym same)
            (subst (λ f. CountsSlot faults (failed session) f next) (sym first)
            (subst (λ f. CountsSlot faults (failed session) one.slot f) (sym last) one.counts))
        | inr other ↦
            slot_kept faults (failed s) slot next
            (some_one next slot
            (sym now ∙ ap (λ fs. slice_get fs s) one.has ∙ get_other old session s one.next other ∙ there))
            (λ is. other (named s is))
      ];
}

-- a failed read of a pull is one of its session
read_of : {F : Type 0} (left : F → Option (List Event)) (count : Option ℕ) (limits : Limits) (slot next : Option F)
    (old_held new_held : Option (List ℕ)) (result : Result (Unit {0}) RunFault) (peer later : PeerState) (s : ℕ)
    → result ≡ Err (ReadFault s) → PullsSlot left count limits slot next old_held new_held result peer later
    → s ≡ peer.number
read_of left count limits None next old_held new_held result peer later s is pull =
    let clash : IsOk {T = Unit {0}} (Err (ReadFault s)) = subst (λ (r : Result (Unit {0}) RunFault). IsOk r) is pull.done in cc
read_of left count limits (Some feed) next old_held new_held result peer later s is pull =
    (subst (λ (r : Result (Unit {0}) RunFault). EndsBy count limits peer later r) is pull.pull.ends).0

pub pull_named : {F : Type 0} (left : F → Option (List Event)) (session : ℕ) (count : Option ℕ)
    (old_feeds new_feeds : List (Option F)) (old_held new_held : Option (List ℕ))
    (result : Result (Unit {0}) RunFault) (old new : ControlState)
    → (old.exhausted ≡ false
    → PullsOne left session count old.limits old_feeds new_feeds old_held new_held result old.peers new.peers)
    → (old.exhausted ≡ true → result ≡ Err OutOfMemory) → (s : ℕ) → result ≡ Err (ReadFault s) → s ≡ session
pull_named left session count old_feeds new_feeds old_held new_held result old new one stays s is =
    by_memory old.exhausted refl
  where
    by_memory : (b : Bool) → old.exhausted ≡ b → s ≡ session
    by_memory true out = let clash : Err (ReadFault s) ≡ Err OutOfMemory = sym is ∙ stays out in cc
    by_memory false able =
        let o = one able in
        read_of left count old.limits o.slot o.next old_held new_held result o.peer o.later s is o.pull ∙ o.number

-- feeds of which a call that ended well tells that none failed
pub none_is : {F : Type 0} (faults : F → ℕ) (failed : ℕ → Type 0) (old new : List (Option F)) → ((s : ℕ) → failed s → ⊥)
    → CountEach faults failed old new → CountEach faults (λ s. ⊥) old new
none_is faults failed old new never counts =
    each_by faults failed (λ s. ⊥) old new (λ s. (never s, λ none. absurd none)) counts

-- a run that ended well had no failed read
pub well_read : {F : Type 0} (faults : F → ℕ) (done : Unit {0}) (old new : List (Option F))
    → CountEach faults (λ s. Ok done ≡ Err (ReadFault s)) old new → CountEach faults (λ s. ⊥) old new
well_read faults done old new counts =
    none_is faults (λ s. Ok done ≡ Err (ReadFault s)) old new (never done) counts
  where
    never : (done : Unit {0}) (s : ℕ) → Ok done ≡ Err (ReadFault s) → ⊥
    never done s clash = cc

-- a line that was offered behind a run that ended well tells of no failed read
pub each_offered : {F : Type 0} (faults : F → ℕ) (done : Unit {0}) (offered : Result (Unit {0}) RunFault)
    (old new : List (Option F)) → IfErr offered (λ fault. fault ≡ WriteFault)
    → CountEach faults (λ s. Ok done ≡ Err (ReadFault s)) old new
    → CountEach faults (λ s. offered ≡ Err (ReadFault s)) old new
each_offered faults done offered old new err counts =
    each_by faults (λ s. ⊥) (λ s. offered ≡ Err (ReadFault s)) old new
    (λ s. (λ never. absurd never, λ is. unread offered err s is)) (well_read faults done old new counts)
  where
    unread : (r : Result (Unit {0}) RunFault) → IfErr r (λ fault. fault ≡ WriteFault) → (s : ℕ)
        → r ≡ Err (ReadFault s) → ⊥
    unread (Ok u) err s is = cc
    unread (Err fault) err s is = let clash : Err WriteFault ≡ Err (ReadFault s) = ap Err (sym err) ∙ is in cc
