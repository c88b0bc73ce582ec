-- How a pull ends: by what was asked for, by a fault, or for want of memory.
use Rattle.std.proofs.Common.{◌≡◌, ℕ, ◌+◌, ◌-◌, ◌<◌, ◌≤◌, Bool, true, false, List, ◌++◌, length, take}
use Rattle.std.proofs.Common.{Option, Some, None, Result, Ok, Err, refl, sym, ap, subst, ◌∙◌, arith, inl}
use Rattle.std.proofs.Common.{inr}
use Rattle.std.specs.Prelude.{OnOk, OnErr, IfErr, not, ◌&&◌, nat_lt}
use Rattle.std.proofs.lemmas.Bool.Decides.{nat_tests}
use Rattle.control_core.specs.declared.limits.Limits.{Limits}
use Rattle.std.specs.Io.KnownBytes.{Appends}
use Rattle.feed_io.specs.Events.{Event}
use Rattle.session_fsm.specs.declared.items.Effect.{Effect}
use Rattle.control_core.specs.declared.limits.RunFault.{RunFault}
use Rattle.control_core.specs.declared.limits.RunFault.TheVariants.{ReadFault, WriteFault, ItemLimit, OctetLimit}
use Rattle.control_core.specs.declared.limits.RunFault.TheVariants.{OutOfMemory}
use Rattle.control_core.specs.States.{PeerState}
use Rattle.control_core.specs.FeedCalls.{Gave}
use Rattle.control_core.specs.History.{StandsFor}
use Rattle.control_core.specs.Turns.{Counts, HadMemory, IsTurnFault, Turned}
use Rattle.control_core.specs.Pulls.{asks_more, EndsBy, StaysWithin, TakesAtMost, reset_lines}
use Rattle.control_core.specs.Pulls.{met_end, Pull, Pulled, Stopped}
use Rattle.control_core.proofs.PullLaws.{SoFar, so_far_begins, so_far_none, no_end, pulled_so_far, TookEnd}

-- the items of a pull that took none so far
pub takes_none : (count : Option ℕ) (now : PeerState) → TakesAtMost count now now
takes_none None now = omega arith
takes_none (Some count) now = (omega arith, omega arith)

pub takes_same : (count : Option ℕ) (old mid new : PeerState) → TakesAtMost count old mid
    → new.session.items ≡ mid.session.items → TakesAtMost count old new
takes_same None old mid new within same = omega arith
takes_same (Some count) old mid new within same = (omega (arith, within.0), omega (arith, within.1))

below : (taken count : ℕ) → nat_lt taken count ≡ true → taken < count
below taken count is = grind (arith, nat_tests)

-- one more item, where more are asked for
pub takes_more : (count : Option ℕ) (old mid new : PeerState) → TakesAtMost count old mid
    → asks_more count (mid.session.items - old.session.items) ≡ true → new.session.items ≡ mid.session.items + 1
    → TakesAtMost count old new
takes_more None old mid new within asks one = omega arith
takes_more (Some count) old mid new within asks one =
    let less = below (mid.session.items - old.session.items) count asks in
    (omega (arith, within.0), omega (arith, within.0, within.1, less))

-- what a turn that failed took
pub takes_until : (count : Option ℕ) (fault : RunFault) (old mid new : PeerState) (limits : Limits)
    → TakesAtMost count old mid → asks_more count (mid.session.items - old.session.items) ≡ true
    → Counts (Err fault) mid new limits → TakesAtMost count old new
takes_until count (ReadFault session) old mid new limits within asks counts =
    takes_same count old mid new within counts.0
takes_until count WriteFault old mid new limits within asks counts = absurd counts
takes_until count (ItemLimit session) old mid new limits within asks counts = absurd counts
takes_until count (OctetLimit session) old mid new limits within asks counts =
    takes_same count old mid new within counts.0
takes_until count OutOfMemory old mid new limits within asks counts = takes_same count old mid new within counts.0

-- a turn that failed passes no limit
pub stays_until : (fault : RunFault) (old mid new : PeerState) (limits : Limits) → StaysWithin limits old mid
    → mid.session.items < limits.items → Counts (Err fault) mid new limits → StaysWithin limits old new
stays_until (ReadFault session) old mid new limits stays below counts =
    (λ begun. omega (arith, below, counts.0), λ begun. omega (arith, counts.2))
stays_until WriteFault old mid new limits stays below counts = absurd counts
stays_until (ItemLimit session) old mid new limits stays below counts = absurd counts
stays_until (OctetLimit session) old mid new limits stays below counts =
    (λ begun. omega (arith, below, counts.0), λ begun. omega (arith, stays.1 begun, counts.4))
stays_until OutOfMemory old mid new limits stays below counts =
    (λ begun. omega (arith, below, counts.0), λ begun. omega (arith, stays.1 begun, counts.1))

-- a pull whose turn failed
pub pulled_until : (events : List Event) (effects : List Effect) (old_left mid_left new_left : Option (List Event))
    (old_held new_held : Option (List ℕ)) (fault : RunFault) (old mid new : PeerState) (limits : Limits)
    → (far : SoFar old.number events effects old_left mid_left old_held new_held mid)
    → Turned (events ++ far.gave) (effects ++ far.more) mid_left new_left (Err fault) new
    → mid.ended ≡ false → Counts (Err fault) mid new limits → HadMemory {T = Unit {0}} (Err fault)
    → Pulled events effects old_left new_left old_held new_held (Err fault) old new
pulled_until events effects old_left mid_left new_left old_held new_held (ReadFault session) old mid new limits far
    turned unmet counts had =
    pulled_so_far events effects old_left new_left old_held new_held (Err (ReadFault session)) old new
    (so_far_none old.number events effects old_left mid_left new_left old_held new_held mid new
    (Err (ReadFault session)) far turned turned.shows) (counts.1 ∙ unmet) tt
pulled_until events effects old_left mid_left new_left old_held new_held WriteFault old mid new limits far
    turned unmet counts had = absurd counts
pulled_until events effects old_left mid_left new_left old_held new_held (ItemLimit session) old mid new limits far
    turned unmet counts had = absurd counts
pulled_until events effects old_left mid_left new_left old_held new_held (OctetLimit session) old mid new limits far
    turned unmet counts had =
    pulled_so_far events effects old_left new_left old_held new_held (Err (OctetLimit session)) old new
    (so_far_none old.number events effects old_left mid_left new_left old_held new_held mid new
    (Err (OctetLimit session)) far turned turned.shows) (counts.1 ∙ unmet) tt
pulled_until events effects old_left mid_left new_left old_held new_held OutOfMemory old mid new limits far
    turned unmet counts had = absurd had

-- what a sink took of the end line, by the two clauses that say so
pub took_end : (result : Result (Unit {0}) RunFault) (old new : Option (List ℕ)) (line : List ℕ)
    → OnOk result (Appends old new line) → IfErr result (λ fault. fault ≡ WriteFault)
    → OnErr result ((n : ℕ) × (n ≤ length line) × Appends old new (take n line)) → TookEnd result old new line
took_end (Ok done) old new line ok err cut = ok
took_end (Err fault) old new line ok err cut = (err, cut)

-- a pull that is asked for nothing, or after the end
pub pulled_none : (events : List Event) (effects : List Effect) (left : Option (List Event)) (held : Option (List ℕ))
    (now : PeerState) → StandsFor events effects now → now.ended ≡ true
    → Pulled events effects left left held held (Ok tt) now now
pulled_none events effects left held now stands ended =
    let far = so_far_begins now.number events effects left held now stands in
    let met : met_end now now ≡ false = ap (λ (b : Bool). not b && now.ended) ended in
    record {
      gave = far.gave;
      more = far.more;
      told = far.told;
      stands = far.stands;
      emptied = λ is. let clash : true ≡ false = sym is ∙ met in cc;
      wrote = (
        reset_lines now.number (length effects) far.more,
        no_end now.number (events ++ far.gave) effects far.more (met_end now now) met,
        far.wrote,
      );
    }

-- how a pull that met the end, or that took all that was asked for, ends
pub ends_at_end : (count : Option ℕ) (limits : Limits) (old new : PeerState) (result : Result (Unit {0}) RunFault)
    → old.ended ≡ false → new.ended ≡ true → asks_more count (new.session.items - old.session.items) ≡ true
    → new.session.items < limits.items → new.octets < limits.octets → IfErr result (λ fault. fault ≡ WriteFault)
    → EndsBy count limits old new result
ends_at_end count limits old new (Ok done) unmet ended asks items octets err =
    inr (unmet, inl (ended, asks, items, octets))
ends_at_end count limits old new (Err fault) unmet ended asks items octets err =
    subst (λ (f : RunFault). EndsBy count limits old new (Err f)) (sym err) (unmet, λ is. asks)

-- a pull that memory ran out for, which had come so far
pub stopped_at : (events : List Event) (effects : List Effect) (old : PeerState)
    (old_left mid_left new_left : Option (List Event)) (old_held held : Option (List ℕ)) (mid new : PeerState)
    → SoFar old.number events effects old_left mid_left old_held held mid → new ≡ mid → new_left ≡ mid_left
    → Stopped events effects old_left new_left old_held held old new
stopped_at events effects old old_left mid_left new_left old_held held mid new far same left = record {
  gave = far.gave;
  more = far.more;
  told = subst (Gave old_left far.gave) (sym left) far.told;
  stands = subst (StandsFor (events ++ far.gave) (effects ++ far.more)) (sym same) far.stands;
  wrote = far.wrote;
}

-- where memory was had, it was not wanted
pub had_memory : (result : Result (Unit {0}) RunFault) → HadMemory result → result ≡ Err OutOfMemory → ⊥
had_memory result had is = subst (λ (r : Result (Unit {0}) RunFault). HadMemory r) is had

pub end_had : (result : Result (Unit {0}) RunFault) → IfErr result (λ fault. fault ≡ WriteFault) → HadMemory result
end_had (Ok done) err = tt
end_had (Err fault) err = subst (λ (f : RunFault). HadMemory {T = Unit {0}} (Err f)) (sym err) tt

-- how a pull ends whose turn failed
pub ends_until : (count : Option ℕ) (fault : RunFault) (old mid new : PeerState) (limits : Limits)
    → IsTurnFault old.number fault → old.ended ≡ false → mid.ended ≡ false
    → asks_more count (mid.session.items - old.session.items) ≡ true
    → mid.session.items < limits.items → Counts (Err fault) mid new limits → (fault ≡ OutOfMemory → new ≡ mid)
    → EndsBy count limits old new (Err fault)
ends_until count (ReadFault session) old mid new limits is begun unmet asks few counts kept = (
  is,
  (begun, counts.1 ∙ unmet, ap (λ (n : ℕ). asks_more count (n - old.session.items)) counts.0 ∙ asks),
  omega (arith, counts.0, few),
  counts.2,
  counts.3,
)
ends_until count WriteFault old mid new limits is begun unmet asks few counts kept = absurd counts
ends_until count (ItemLimit session) old mid new limits is begun unmet asks few counts kept = absurd counts
ends_until count (OctetLimit session) old mid new limits is begun unmet asks few counts kept = (
  is,
  (begun, counts.1 ∙ unmet, ap (λ (n : ℕ). asks_more count (n - old.session.items)) counts.0 ∙ asks),
  omega (arith, counts.0, few),
  counts.2,
  counts.3,
)
ends_until count OutOfMemory old mid new limits is begun unmet asks few counts kept =
    let same : new ≡ mid = kept refl in (
      begun,
      ap (λ (p : PeerState). p.ended) same ∙ unmet,
      ap (λ (p : PeerState). asks_more count (p.session.items - old.session.items)) same ∙ asks,
    )

-- a pull after the end does nothing
pub pull_after_end : (count : Option ℕ) (limits : Limits) (left : Option (List Event)) (held : Option (List ℕ))
    (now : PeerState) → now.ended ≡ true → Pull count limits left left held held (Ok tt) now now
pull_after_end count limits left held now ended = record {
  pulled = λ events effects stands had. pulled_none events effects left held now stands ended;
  stopped = λ events effects stands wanted. absurd (had_memory (Ok tt) tt wanted);
  ends = inl (ended, refl);
  most = takes_none count now;
  within = (λ within. within, λ within. within);
  number = refl;
  config = refl;
}
