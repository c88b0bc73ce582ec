-- What a pull that a fault of its session stopped knew, and wrote.
use Rattle.std.proofs.Common.{◌≡◌, ℕ, ◌<◌, ◌≤◌, min, Bool, true, false, List, [], ◌++◌, length}
use Rattle.std.proofs.Common.{Option, Some, None, Err, refl, sym, ap, subst, ◌∙◌, arith, length-append}
use Rattle.std.specs.Prelude.{slice_get, not, ◌&&◌}
use Rattle.std.specs.Io.KnownBytes.{Appends}
use Rattle.std.proofs.lemmas.List.{append-nil}
use Rattle.bgp_wire.specs.Frames.{IsShort}
use Rattle.feed_io.specs.Events.{Event}
use Rattle.session_fsm.specs.declared.items.Effect.{Effect}
use Rattle.control_core.specs.FeedCalls.{Gave}
use Rattle.control_core.specs.History.{StandsFor}
use Rattle.control_core.specs.Items.{connection_at_end}
use Rattle.control_core.specs.Pulls.{IsPullText, Pulled, met_end}
use Rattle.control_core.specs.States.{ControlState, PeerState}
use Rattle.control_core.specs.Worlds.{Course}
use Rattle.control_core.specs.declared.limits.Limits.{Limits}
use Rattle.control_core.specs.declared.limits.TheConstants.{ITEM_LIMIT}
use Rattle.control_core.specs.declared.limits.RunFault.{RunFault}
use Rattle.control_core.specs.declared.limits.RunFault.TheVariants as refusal
use Rattle.control_core.proofs.HistoryLaws.{none_pending}
use Rattle.control_core.proofs.Places.{get_set}
use Rattle.run_lines.specs.Inputs.{Input, Run}
use Rattle.run_lines.specs.Places.{Place, Reached, reached_at}
use Rattle.run_lines.specs.RunText.{end_text, resets}
use Rattle.run_lines.specs.Runs.{IsAt, PullStops, StepKnows, TookAll}
use Rattle.run_lines.specs.Slots.{Slot, left_in}
use Rattle.run_lines.specs.Steps as steps
use Rattle.run_lines.specs.Stops.{PullKnows}
use Rattle.run_lines.proofs.Knowing.{took_length}
use Rattle.run_lines.proofs.Pulling.{further}
use Rattle.run_lines.proofs.PullsAt.{PullsAt, reached_is}

-- what a pull had taken where a fault of its session stopped it, and what it wrote
pull_knows : (run : Run) (place : Place) (session : ℕ) (count : Option ℕ) (limits : Limits) (courses : List Course)
    (old_slots new_slots : List Slot) (old_held new_held : Option (List ℕ)) (fault : RunFault)
    (old new : List PeerState)
    → (one : PullsAt run place session count limits courses old_slots new_slots old_held new_held (Err fault) old new)
    → (p : Pulled one.begun.course.events one.begun.course.effects (left_in one.slot) (left_in one.next) old_held
    new_held (Err fault) one.peer one.later)
    → (text : List ℕ)
    → IsPullText one.peer.number (one.begun.course.events ++ p.gave) one.begun.course.effects p.more
    (met_end one.peer one.later) text
    → Appends old_held new_held text → one.later.ended ≡ false
    → length (one.begun.course.effects ++ p.more) ≡ min (length (p.stands.took ++ p.stands.pending)) ITEM_LIMIT
    → TookAll (PullKnows run place session new_slots) old_held new_held
pull_knows run place session count limits courses old_slots new_slots old_held new_held fault old new one p text is
    appended unmet taken =
    let b = one.begun in
    let f =
    further b.config session b.input b.at b.course one.peer one.later one.slot (left_in one.next) old_held new_held
    (Err fault) b.before p one.pull.config in
    let none : end_text (met_end one.peer one.later) session b.input ≡ [] =
    ap (λ (m : Bool). end_text (not one.peer.ended && m) session b.input) unmet ∙ no_end (not one.peer.ended) session
    b.input in
    let reached : b.at.taken ≡ (reached_at place session).taken =
    ap (λ (at : Reached). at.taken) (sym (reached_is run place session courses one.peer one.slot b)) in
    record {
      text = text;
      is = record {
        input = b.input;
        has = b.has;
        slot = one.next;
        leaves = ap (λ (ls : List Slot). slice_get ls session) one.has
            ∙ get_set old_slots session one.slot one.next one.had;
        gave = b.course.events ++ p.gave;
        told = subst (λ (l : Option (List Event)). Gave (Some b.input.course.events) (b.course.events ++ p.gave) l)
            (sym f.left_is) f.same;
        items = p.stands.took ++ p.stands.pending;
        are = p.stands.items;
        same = f.text text is
            ∙ ap (λ (t : List ℕ). resets session b.input b.at.taken (length (b.course.effects ++ p.more)) ++ t) none
            ∙ append-nil (resets session b.input b.at.taken (length (b.course.effects ++ p.more)))
            ∙ ap (resets session b.input b.at.taken) taken
            ∙ ap (λ (n : ℕ). resets session b.input n (min (length (p.stands.took ++ p.stands.pending)) ITEM_LIMIT)) reached;
      };
      appended = appended;
    }
  where
    no_end : (going : Bool) (s : ℕ) (input : Input) → end_text (going && false) s input ≡ []
    no_end true s input = refl
    no_end false s input = refl

-- that is all items of what its feed gave
all_taken : (b_events : List Event) (effects : List Effect) (later : PeerState)
    → (stands : StandsFor b_events effects later) → IsShort later.held → later.session.items < ITEM_LIMIT
    → length effects ≡ min (length (stands.took ++ stands.pending)) ITEM_LIMIT
all_taken events effects later stands short few =
    let none =
    none_pending later.receiving (connection_at_end None events) later.held stands.pending short stands.connection in
    let took = took_length events effects later stands in
    omega (arith, few, stands.counted, took, ap length none, length-append stands.took stands.pending)

-- what a pull wrote where it stopped
pub pull_wrote : (run : Run) (place : Place) (session : ℕ) (count : Option ℕ) (old new : ControlState) (rounds : ℕ)
    (old_slots new_slots : List Slot) (old_held new_held : Option (List ℕ)) (fault : RunFault)
    → (s : IsAt run place old rounds old_slots)
    → PullsAt run place session count old.limits s.courses old_slots new_slots old_held new_held (Err fault) old.peers
    new.peers
    → StepKnows run place (steps.pull session count) new_slots fault old_held new_held
pull_wrote run place session count old new rounds old_slots new_slots old_held new_held (refusal.ReadFault n) s one =
    let b = one.begun in
    let p = one.pull.pulled b.course.events b.course.effects b.before.stands tt in
    let few : one.later.session.items < ITEM_LIMIT =
    subst (λ (l : Limits). one.later.session.items < l.items) s.limits one.pull.ends.2 in
    let named : session ≡ n = sym one.number ∙ sym one.pull.ends.0 in
    subst (λ (k : ℕ). PullStops run place (steps.pull session count) new_slots k old_held new_held) named (
      count,
      refl,
      pull_knows run place session count old.limits s.courses old_slots new_slots old_held new_held
          (refusal.ReadFault n) old.peers new.peers one p p.wrote.0 p.wrote.1 p.wrote.2 one.pull.ends.1.1
          (all_taken (b.course.events ++ p.gave) (b.course.effects ++ p.more) one.later p.stands one.pull.ends.4 few),
    )
pull_wrote run place session count old new rounds old_slots new_slots old_held new_held refusal.WriteFault s one = tt
pull_wrote run place session count old new rounds old_slots new_slots old_held new_held (refusal.ItemLimit n) s one =
    let b = one.begun in
    let here = b.before.here in
    let p = one.pull.pulled b.course.events b.course.effects b.before.stands tt in
    let limit : ITEM_LIMIT ≤ one.later.session.items =
    subst (λ (l : Limits). l.items ≤ one.later.session.items) s.limits one.pull.ends.2 in
    let within : one.later.session.items ≤ ITEM_LIMIT =
    subst (λ (l : Limits). one.later.session.items ≤ l.items) s.limits
    (one.pull.within.0
    (subst (λ (l : Limits). one.peer.session.items ≤ l.items) (sym s.limits)
    (omega (arith, here.within, here.taken, b.before.stands.counted)))) in
    let took = took_length (b.course.events ++ p.gave) (b.course.effects ++ p.more) one.later p.stands in
    let named : session ≡ n = sym one.number ∙ sym one.pull.ends.0 in
    subst (λ (k : ℕ). PullStops run place (steps.pull session count) new_slots k old_held new_held) named (
      count,
      refl,
      pull_knows run place session count old.limits s.courses old_slots new_slots old_held new_held
          (refusal.ItemLimit n) old.peers new.peers one p p.wrote.0 p.wrote.1 p.wrote.2 one.pull.ends.1.1
          (omega (arith, limit, within, p.stands.counted, took, length-append p.stands.took p.stands.pending)),
    )
pull_wrote run place session count old new rounds old_slots new_slots old_held new_held (refusal.OctetLimit n) s one =
    let b = one.begun in
    let p = one.pull.pulled b.course.events b.course.effects b.before.stands tt in
    let few : one.later.session.items < ITEM_LIMIT =
    subst (λ (l : Limits). one.later.session.items < l.items) s.limits one.pull.ends.2 in
    let named : session ≡ n = sym one.number ∙ sym one.pull.ends.0 in
    subst (λ (k : ℕ). PullStops run place (steps.pull session count) new_slots k old_held new_held) named (
      count,
      refl,
      pull_knows run place session count old.limits s.courses old_slots new_slots old_held new_held
          (refusal.OctetLimit n) old.peers new.peers one p p.wrote.0 p.wrote.1 p.wrote.2 one.pull.ends.1.1
          (all_taken (b.course.events ++ p.gave) (b.course.effects ++ p.more) one.later p.stands one.pull.ends.4 few),
    )
pull_wrote run place session count old new rounds old_slots new_slots old_held new_held refusal.OutOfMemory s one = tt
