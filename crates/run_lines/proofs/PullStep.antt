-- A pull as a step of a run: what it comes to.
use Rattle.std.proofs.Common.{◌≡◌, ℕ, ◌-◌, ◌<◌, ◌≤◌, Bool, true, false, List, ◌++◌, length}
use Rattle.std.proofs.Common.{inl, inr, Option, Some, None, Result, Ok, Err, refl, sym, ap, subst, ◌∙◌, arith, length-append}
use Rattle.std.specs.Prelude.{slice_get, slice_set, not, ◌&&◌, ◌↔◌}
use Rattle.std.proofs.lemmas.Option.{get_or_from_slice_get}
use Rattle.feed_io.specs.Events.{Event}
use Rattle.session_fsm.specs.declared.items.Effect.{Effect}
use Rattle.control_core.specs.Controls.{ControlStandsFor, KeepsPublished, PullsOne, goes_on}
use Rattle.control_core.specs.FeedCalls.{Gave}
use Rattle.control_core.specs.History.{StandsFor}
use Rattle.control_core.specs.Items.{connection_at_end}
use Rattle.control_core.specs.Pulls.{EndsBy, Pull, asks_more, met_end}
use Rattle.control_core.specs.States.{ControlState, PeerState}
use Rattle.control_core.specs.Worlds.{Course}
use Rattle.control_core.specs.declared.limits.Limits.{Limits}
use Rattle.control_core.specs.declared.limits.TheConstants.{ITEM_LIMIT, OCTET_LIMIT}
use Rattle.control_core.specs.declared.limits.RunFault.{RunFault}
use Rattle.control_core.specs.declared.limits.RunFault.TheVariants as refusal
use Rattle.control_core.proofs.HistoryLaws.{none_pending}
use Rattle.control_core.proofs.Places.{get_set, some_one}
use Rattle.run_lines.specs.Inputs.{Run, opening_of, total}
use Rattle.run_lines.specs.Limits.{PullFillsItems, PullFillsOctets, StepFills}
use Rattle.run_lines.specs.Places.{Place, Reached, next_place, not_begun, pulled, pulled_of, reached_at}
use Rattle.run_lines.specs.RunText.{Gives, pull_text}
use Rattle.run_lines.specs.Runs.{AreSessionsAt, IsAt, RanStep, Reaches}
use Rattle.run_lines.specs.Slots.{AreEmptiedBetween, Slot, left_in, slots_of}
use Rattle.run_lines.specs.Steps as steps
use Rattle.run_lines.proofs.Knowing.{took_length}
use Rattle.run_lines.proofs.Emptied.{emptied_at, get_other, reached_other, same_place}
use Rattle.run_lines.proofs.Leading.{at_most, below_is, is_below, told_end}
use Rattle.run_lines.proofs.PullKnows.{pull_wrote}
use Rattle.run_lines.proofs.Pulling.{further, pull_front, pulls_well}
use Rattle.run_lines.proofs.SessionsAt.{sessions_set}
use Rattle.run_lines.proofs.PullsAt.{Begins, PullsAt, front_by, is_false, met_had, next_is, pulls_at, reached_is, text_is, took_by}

-- a pull that ended well
pull_done : (run : Run) (place : Place) (session : ℕ) (count : Option ℕ) (old new : ControlState) (rounds : ℕ)
    (old_slots new_slots : List Slot) (old_held new_held : Option (List ℕ))
    → (s : IsAt run place old rounds old_slots)
    → PullsAt run place session count old.limits s.courses old_slots new_slots old_held new_held (Ok tt) old.peers
    new.peers
    → ((course : Course) (peer : PeerState) (gave : List Event) (more : List Effect)
    → slice_get s.courses session ≡ Some course → slice_get new.peers session ≡ Some peer
    → StandsFor (course.events ++ gave) (course.effects ++ more) peer
    → ControlStandsFor (opening_of run) place.edits (slice_set s.courses session (goes_on course gave more)) new)
    → KeepsPublished old new → new.exhausted ≡ false
    → RanStep run place (steps.pull session count) (Ok tt) new rounds new_slots old_held new_held
pull_done run place session count old new rounds old_slots new_slots old_held new_held s one stands kept able =
    let b = one.begun in
    let well =
    pulls_well b.config session b.input b.at count b.course old.limits one.peer one.later one.slot one.next
    old_held new_held s.limits b.before one.pull one.gone in
    let next : Reached = pulled (total b.input) count b.at in (
      took_by (λ text. text ≡ pull_text session b.input b.at next) (Gives run place (steps.pull session count)) old_held
          new_held
          (λ text is. is ∙ text_is run place session count s.courses one.peer one.slot b) well.took,
      record {
        whole = s.whole;
        courses = slice_set s.courses session (goes_on b.course well.gave well.more);
        stands = stands b.course one.later well.gave well.more b.course_is
            (ap (λ (ps : List PeerState). slice_get ps session) one.is
            ∙ get_set old.peers session one.peer one.later one.was) well.stands;
        sessions =
            subst (λ (at : Reached). AreSessionsAt run.inputs (slice_set place.sessions session at)
            (slice_set s.courses session (goes_on b.course well.gave well.more)) new.peers new_slots)
            (sym (next_is run place session count s.courses one.peer one.slot b))
            (subst (λ (ls : List Slot). AreSessionsAt run.inputs
            (slice_set place.sessions session next)
            (slice_set s.courses session (goes_on b.course well.gave well.more)) new.peers ls) (sym one.has)
            (subst (λ (ps : List PeerState). AreSessionsAt run.inputs (slice_set place.sessions session next)
            (slice_set s.courses session (goes_on b.course well.gave well.more)) ps
            (slice_set old_slots session one.next)) (sym one.is)
            (sessions_set run.inputs place.sessions s.courses old.peers old_slots session b.input next
            (goes_on b.course well.gave well.more) one.later one.next s.sessions b.has well.here)));
        earlier = s.earlier;
        marks = kept.marks ∙ s.marks;
        limits = kept.limits ∙ s.limits;
        able = able;
        ended = s.ended;
      },
    )

-- a pull that asks for more than so many asks for more than fewer
asks_fewer : (count : Option ℕ) (many few : ℕ) → few ≤ many → asks_more count many ≡ true → asks_more count few ≡ true
asks_fewer None many few less asks = refl
asks_fewer (Some count) many few less asks = is_below few count (omega (arith, less, below_is many count asks))

-- the limit that a pull came to
limited : (run : Run) (place : Place) (session : ℕ) (count : Option ℕ) (old new : ControlState) (rounds : ℕ)
    (old_slots new_slots : List Slot) (old_held new_held : Option (List ℕ)) (fault : RunFault)
    → (s : IsAt run place old rounds old_slots)
    → PullsAt run place session count old.limits s.courses old_slots new_slots old_held new_held (Err fault) old.peers
    new.peers
    → Reaches (λ s. StepFills PullFillsItems run place (steps.pull session count) s new_slots)
    (λ s. StepFills PullFillsOctets run place (steps.pull session count) s new_slots) fault
limited run place session count old new rounds old_slots new_slots old_held new_held
    (refusal.ReadFault n) s one =
    tt
limited run place session count old new rounds old_slots new_slots old_held new_held
    refusal.WriteFault s one =
    tt
limited run place session count old new rounds old_slots new_slots old_held new_held
    (refusal.ItemLimit n) s one =
    let b = one.begun in
    let p = one.pull.pulled b.course.events b.course.effects b.before.stands tt in
    let f =
    further b.config session b.input b.at b.course one.peer one.later one.slot (left_in one.next) old_held new_held
    (Err (refusal.ItemLimit n)) b.before p one.pull.config in
    let limit : ITEM_LIMIT ≤ one.later.session.items =
    subst (λ (l : Limits). l.items ≤ one.later.session.items) s.limits one.pull.ends.2 in
    let named : session ≡ n = sym one.number ∙ sym one.pull.ends.0 in
    let here = b.before.here in
    let took = took_length (b.course.events ++ p.gave) (b.course.effects ++ p.more) one.later p.stands in
    subst (λ (k : ℕ). StepFills PullFillsItems run place (steps.pull session count) k new_slots) named
    (record {
      count = count;
      pulls = refl;
      given = record {
        input = b.input;
        has = b.has;
        slot = one.next;
        leaves = ap (λ (ls : List Slot). slice_get ls session) one.has
            ∙ get_set old_slots session one.slot one.next one.had;
        gave = b.course.events ++ p.gave;
        told = subst (λ (l : Option (List Event)). Gave (Some b.input.course.events) (b.course.events ++ p.gave) l)
            (sym f.left_is) f.same;
        fills = subst (λ (at : Reached). PullFillsItems at count (b.course.events ++ p.gave))
            (sym (reached_is run place session s.courses one.peer one.slot b))
            (record {
              items = p.stands.took ++ p.stands.pending;
              are = p.stands.items;
              full = omega
                  (arith, limit, p.stands.counted, took, length-append p.stands.took p.stands.pending);
              unmet = sym here.ended ∙ one.pull.ends.1.0;
              from = here.within;
              asks = asks_fewer count (one.later.session.items - one.peer.session.items) (ITEM_LIMIT - b.at.taken)
                  (omega (arith, limit, here.taken, b.before.stands.counted)) one.pull.ends.1.2;
            });
      };
    })
limited run place session count old new rounds old_slots new_slots old_held new_held
    (refusal.OctetLimit n) s one =
    let b = one.begun in
    let p = one.pull.pulled b.course.events b.course.effects b.before.stands tt in
    let f =
    further b.config session b.input b.at b.course one.peer one.later one.slot (left_in one.next) old_held new_held
    (Err (refusal.OctetLimit n)) b.before p one.pull.config in
    let few : one.later.session.items < ITEM_LIMIT =
    subst (λ (l : Limits). one.later.session.items < l.items) s.limits one.pull.ends.2 in
    let limit : OCTET_LIMIT ≤ one.later.octets =
    subst (λ (l : Limits). l.octets ≤ one.later.octets) s.limits one.pull.ends.3 in
    let named : session ≡ n = sym one.number ∙ sym one.pull.ends.0 in
    let here = b.before.here in
    let took = took_length (b.course.events ++ p.gave) (b.course.effects ++ p.more) one.later p.stands in
    let none =
    none_pending one.later.receiving (connection_at_end None (b.course.events ++ p.gave)) one.later.held
    p.stands.pending one.pull.ends.4 p.stands.connection in
    let items : length (p.stands.took ++ p.stands.pending)
    ≡ one.later.session.items =
    omega (arith, p.stands.counted, took, ap length none, length-append p.stands.took p.stands.pending) in
    subst (λ (k : ℕ). StepFills PullFillsOctets run place (steps.pull session count) k new_slots) named
    (record {
      count = count;
      pulls = refl;
      given = record {
        input = b.input;
        has = b.has;
        slot = one.next;
        leaves = ap (λ (ls : List Slot). slice_get ls session) one.has
            ∙ get_set old_slots session one.slot one.next one.had;
        gave = b.course.events ++ p.gave;
        told = subst (λ (l : Option (List Event)). Gave (Some b.input.course.events) (b.course.events ++ p.gave) l)
            (sym f.left_is) f.same;
        fills = subst (λ (at : Reached). PullFillsOctets at count (b.course.events ++ p.gave))
            (sym (reached_is run place session s.courses one.peer one.slot b))
            (record {
              items = p.stands.took ++ p.stands.pending;
              are = p.stands.items;
              few = omega (arith, few, items);
              full = omega (arith, limit, p.stands.octets);
              unmet = sym here.ended ∙ one.pull.ends.1.0;
              from = omega (
                arith,
                items,
                here.taken,
                b.before.stands.counted,
                (at_most count one.peer one.later one.pull.most).0,
              );
              asks = asks_fewer count (one.later.session.items - one.peer.session.items)
                  (length (p.stands.took ++ p.stands.pending) - b.at.taken)
                  (omega (arith, items, here.taken, b.before.stands.counted)) one.pull.ends.1.2;
            });
      };
    })
limited run place session count old new rounds old_slots new_slots old_held new_held
    refusal.OutOfMemory s one =
    tt

-- a pull that stopped had not met the end before
unmet_before : (count : Option ℕ) (limits : Limits) (old new : PeerState) (fault : RunFault)
    → EndsBy count limits old new (Err fault) → old.ended ≡ false
unmet_before count limits old new (refusal.ReadFault n) ends = ends.1.0
unmet_before count limits old new refusal.WriteFault ends = ends.0
unmet_before count limits old new (refusal.ItemLimit n) ends = ends.1.0
unmet_before count limits old new (refusal.OctetLimit n) ends = ends.1.0
unmet_before count limits old new refusal.OutOfMemory ends = ends.0

-- a pull that stopped behind the end was to meet it
ends_told : (count : Option ℕ) (limits : Limits) (run : Run) (place : Place) (session : ℕ) (courses : List Course)
    (peer later : PeerState) (slot next : Slot) (old_held new_held : Option (List ℕ)) (fault : RunFault)
    → (b : Begins run place session courses peer slot)
    → Pull count limits (left_in slot) (left_in next) old_held new_held (Err fault) peer later
    → met_end peer later ≡ true → (pulled (total b.input) count b.at).ended ≡ true
ends_told count limits run place session courses peer later slot next old_held new_held fault b pull met =
    let had = met_had count limits peer later (Err fault) pull.ends met in
    let p = pull.pulled b.course.events b.course.effects b.before.stands had in
    let f =
    further b.config session b.input b.at b.course peer later slot (left_in next) old_held new_held (Err fault)
    b.before p pull.config in
    let taken : b.at.taken ≡ peer.session.items = b.before.here.taken ∙ sym b.before.stands.counted in
    second (not b.at.ended) (pulled (total b.input) count b.at).ended
    (told_end (total b.input) count b.at limits peer later fault later.session.items taken b.before.here.ended pull.ends
    refl (at_most count peer later pull.most).0 (p.stands.counted ∙ f.met met) met).1
  where
    second : (a c : Bool) → (a && c) ≡ true → c ≡ true
    second true c is = is
    second false c is = cc

-- a pull that stopped leaves each slot but its own as it was, and its own is empty only where the whole pull meets the end
pull_empties : (run : Run) (place : Place) (session : ℕ) (count : Option ℕ) (old new : ControlState) (rounds : ℕ)
    (old_slots new_slots : List Slot) (old_held new_held : Option (List ℕ)) (fault : RunFault)
    → (s : IsAt run place old rounds old_slots)
    → PullsAt run place session count old.limits s.courses old_slots new_slots old_held new_held (Err fault) old.peers
    new.peers
    → AreEmptiedBetween place (next_place run.inputs (steps.pull session count) place) new_slots
pull_empties run place session count old new rounds old_slots new_slots old_held new_held fault s one =
    let b = one.begun in
    let here = b.before.here in
    let before = emptied_at run place old rounds old_slots s in
    let unmet : one.peer.ended ≡ false = unmet_before count old.limits one.peer one.later fault one.pull.ends in
    let unmet_at : (reached_at place session).ended ≡ false =
    ap (λ (at : Reached). at.ended) (reached_is run place session s.courses one.peer one.slot b) ∙ sym here.ended
    ∙ unmet in
    let reached : reached_at (next_place run.inputs (steps.pull session count) place) session
    ≡ pulled (total b.input) count b.at =
    get_or_from_slice_get (slice_set place.sessions session
    (pulled_of (slice_get run.inputs session) count (reached_at place session))) session _ not_begun
    (get_set place.sessions session b.at _ b.at_is)
    ∙ next_is run place session count s.courses one.peer one.slot b in
    let end : one.later.ended ≡ true → (pulled (total b.input) count b.at).ended ≡ true = λ is.
    let met : met_end one.peer one.later ≡ true = ap (λ (b : Bool). not b && one.later.ended) unmet ∙ is in
    ends_told count old.limits run place session s.courses one.peer one.later one.slot one.next old_held new_held fault
    b one.pull met in
    record {
      all = λ t is. elim (same_place t session) [
        | inl same ↦
            let clash : true ≡ false =
            sym is ∙ ap (λ (n : ℕ). (reached_at place n).ended) same ∙ unmet_at in cc
        | inr other ↦
            ap (λ (ls : List Slot). slice_get ls t) one.has ∙ get_other old_slots session t one.next other
            ∙ (before t).1 is
      ];
      only = λ t is. elim (same_place t session) [
        | inl same ↦
            let own : one.next ≡ None = some_one one.next None
            (sym (get_set old_slots session one.slot one.next one.had)
            ∙ ap (λ (ls : List Slot). slice_get ls session) (sym one.has) ∙ ap (slice_get new_slots) (sym same) ∙ is) in
            ap (λ (n : ℕ). (reached_at (next_place run.inputs (steps.pull session count) place) n).ended) same
            ∙ ap (λ (at : Reached). at.ended) reached ∙ end (one.gone.0 own)
        | inr other ↦
            ap (λ (at : Reached). at.ended) (reached_other place.sessions session t _ other)
            ∙ (before t).0 (sym (get_other old_slots session t one.next other)
            ∙ ap (λ (ls : List Slot). slice_get ls t) (sym one.has) ∙ is)
      ];
    }

-- a pull that stopped
pull_fails : (run : Run) (place : Place) (session : ℕ) (count : Option ℕ) (old new : ControlState) (rounds : ℕ)
    (old_slots new_slots : List Slot) (old_held new_held : Option (List ℕ)) (fault : RunFault)
    → (s : IsAt run place old rounds old_slots)
    → PullsAt run place session count old.limits s.courses old_slots new_slots old_held new_held (Err fault) old.peers
    new.peers
    → RanStep run place (steps.pull session count) (Err fault) new rounds new_slots old_held new_held
pull_fails run place session count old new rounds old_slots new_slots old_held new_held fault s one =
    let b = one.begun in (
      front_by (λ text. text ≡ pull_text session b.input b.at (pulled (total b.input) count b.at))
          (Gives run place (steps.pull session count)) old_held new_held
          (λ text is. is ∙ text_is run place session count s.courses one.peer one.slot b)
          (pull_front b.config session b.input b.at count b.course old.limits one.peer one.later one.slot
          (left_in one.next) old_held new_held fault b.before one.pull),
      record {
        limit = limited run place session count old new rounds old_slots new_slots old_held new_held fault s one;
        emptied = pull_empties run place session count old new rounds old_slots new_slots old_held new_held fault s one;
        knows = pull_wrote run place session count old new rounds old_slots new_slots old_held new_held fault s one;
      },
    )

-- a pull of one session of a run
pub pull_ran : {F : Type 0} (left : F → Option (List Event)) (run : Run) (place : Place) (session : ℕ)
    (count : Option ℕ) (result : Result (Unit {0}) RunFault) (old new : ControlState) (rounds : ℕ)
    (old_feeds new_feeds : List (Option F)) (old_held new_held : Option (List ℕ))
    → (s : IsAt run place old rounds (slots_of left old_feeds)) → session < length old.peers
    → (old.exhausted ≡ false
    → PullsOne left session count old.limits old_feeds new_feeds old_held new_held result old.peers new.peers)
    → ((course : Course) (peer : PeerState) (gave : List Event) (more : List Effect)
    → slice_get s.courses session ≡ Some course → slice_get new.peers session ≡ Some peer
    → StandsFor (course.events ++ gave) (course.effects ++ more) peer
    → ControlStandsFor (opening_of run) place.edits (slice_set s.courses session (goes_on course gave more)) new)
    → KeepsPublished old new → (new.exhausted ≡ true) ↔ (result ≡ Err refusal.OutOfMemory)
    → RanStep run place (steps.pull session count) result new rounds (slots_of left new_feeds) old_held new_held
pull_ran left run place session count result old new rounds old_feeds new_feeds old_held new_held s within one stands
    kept memory =
    let o = one s.able in
    by_result result memory
    (pulls_at left run place session count result old new.peers rounds old_feeds new_feeds old_held new_held o.peer
    o.later o.slot o.next s within o.was o.number o.is o.had o.has o.pull)
  where
    by_result : (r : Result (Unit {0}) RunFault) → (new.exhausted ≡ true) ↔ (r ≡ Err refusal.OutOfMemory)
        → PullsAt run place session count old.limits s.courses (slots_of left old_feeds) (slots_of left new_feeds)
        old_held new_held r old.peers new.peers
        → RanStep run place (steps.pull session count) r new rounds (slots_of left new_feeds) old_held new_held
    by_result (Ok done) memory at =
        pull_done run place session count old new rounds (slots_of left old_feeds) (slots_of left new_feeds) old_held
        new_held s at stands kept (is_false new.exhausted (λ is. let clash = memory.0 is in cc))
    by_result (Err fault) memory at =
        pull_fails run place session count old new rounds (slots_of left old_feeds) (slots_of left new_feeds) old_held
        new_held fault s at
