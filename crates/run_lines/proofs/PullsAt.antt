-- A pull of one session of a run, as the slots of the run tell it.
use Rattle.std.proofs.Common.{◌≡◌, ℕ, zero, suc, ◌<◌, Bool, true, false, List, [], ◌∷◌, ◌++◌, length}
use Rattle.std.proofs.Common.{Option, Some, None, Result, Ok, Err, refl, sym, ap, subst, ◌∙◌, arith}
use Rattle.std.specs.Prelude.{slice_get, slice_set, not, ◌&&◌, ◌↔◌, IsOk}
use Rattle.std.specs.Option.{option_map}
use Rattle.std.specs.List.{AllZip}
use Rattle.std.proofs.lemmas.List.{map-set}
use Rattle.std.proofs.lemmas.Option.{get_or_from_slice_get, slice_get-map}
use Rattle.urpf_base.specs.declared.sessions.SessionConfig.{SessionConfig}
use Rattle.feed_io.specs.Events.{Event}
use Rattle.control_core.specs.FeedCalls.{IsEmptied}
use Rattle.control_core.specs.Pulls.{EndsBy, Pull, met_end}
use Rattle.control_core.specs.Slots.{PullsFeed, PullsNone, PullsSlot, slot_after}
use Rattle.control_core.specs.States.{ControlState, PeerState}
use Rattle.control_core.specs.Turns.{HadMemory}
use Rattle.control_core.specs.Worlds.{Course}
use Rattle.control_core.specs.declared.limits.Limits.{Limits}
use Rattle.control_core.specs.declared.limits.RunFault.{RunFault}
use Rattle.control_core.specs.declared.limits.RunFault.TheVariants as refusal
use Rattle.control_core.proofs.Many.{stand_at}
use Rattle.control_core.proofs.Places.{some_at, some_one}
use Rattle.control_core.proofs.PullEnds.{pull_after_end}
use Rattle.run_lines.specs.Inputs.{Input, IsInput, Run, total}
use Rattle.run_lines.specs.Places.{Place, Reached, not_begun, pulled, pulled_of, reached_at}
use Rattle.run_lines.specs.RunText.{pull_text, pull_text_of}
use Rattle.run_lines.specs.Runs.{IsAt, IsSessionAt, TookAll, TookFront}
use Rattle.run_lines.specs.Slots.{Slot, left_in, slots_of}
use Rattle.run_lines.proofs.Leading.{unmet_clash}
use Rattle.run_lines.proofs.Pulling.{Before}
use Rattle.run_lines.proofs.SessionsAt.{IsFront, session_at, sessions_long}
use Rattle.run_lines.proofs.WorldsOf.{fronts_at}

-- the session at a place is an input of a configuration, and a front of it
pub input_at : (configs : List SessionConfig) (inputs : List Input) (s : ℕ) (input : Input)
    → AllZip IsInput configs inputs → slice_get inputs s ≡ Some input → (config : SessionConfig) × IsInput config input
input_at [] [] s input is there = cc
input_at [] (i ∷ inputs) s input is there = absurd is
input_at (k ∷ configs) [] s input is there = cc
input_at (k ∷ configs) (i ∷ inputs) zero input is there =
    (k, subst (IsInput k) (some_one i input there) is.0)
input_at (k ∷ configs) (i ∷ inputs) (suc s) input is there = input_at configs inputs s input is.1 there

front_at : (courses : List Course) (inputs : List Input) (s : ℕ) (course : Course) (input : Input)
    → AllZip IsFront courses inputs → slice_get courses s ≡ Some course → slice_get inputs s ≡ Some input
    → IsFront course input
front_at [] [] s course input fronts here there = cc
front_at [] (i ∷ inputs) s course input fronts here there = absurd fronts
front_at (c ∷ courses) [] s course input fronts here there = absurd fronts
front_at (c ∷ courses) (i ∷ inputs) zero course input fronts here there =
    subst (λ (d : Course). IsFront d input) (some_one c course here)
    (subst (IsFront c) (some_one i input there) fronts.0)
front_at (c ∷ courses) (i ∷ inputs) (suc s) course input fronts here there =
    front_at courses inputs s course input fronts.1 here there

-- what is known before a pull of one session of a run
pub record Begins (run : Run) (place : Place) (session : ℕ) (courses : List Course) (peer : PeerState)
    (slot : Slot) : Type 0 where
  pub input : Input
  pub has : slice_get run.inputs session ≡ Some input
  pub at : Reached
  pub at_is : slice_get place.sessions session ≡ Some at
  pub course : Course
  pub course_is : slice_get courses session ≡ Some course
  pub config : SessionConfig
  pub before : Before config session input at course peer slot

begins : (run : Run) (place : Place) (control : ControlState) (rounds : ℕ) (slots : List Slot)
    (session : ℕ) (peer : PeerState) (slot : Slot) → (s : IsAt run place control rounds slots)
    → slice_get control.peers session ≡ Some peer → slice_get slots session ≡ Some slot → peer.number ≡ session
    → session < length control.peers → Begins run place session s.courses peer slot
begins run place control rounds slots session peer slot s there slot_there number within =
    let long = sessions_long run.inputs place.sessions s.courses control.peers slots s.sessions in
    let found = some_at run.inputs session (omega (arith, within, long.1)) in
    let x = session_at run.inputs place.sessions s.courses control.peers slots session found.0 s.sessions found.1 in
    let is = input_at run.config.sessions run.inputs session found.0 s.whole found.1 in
    let front = front_at s.courses run.inputs session x.course found.0 (fronts_at run place control rounds slots s)
    x.course_is found.1 in
    let stands = stand_at s.courses control.peers session x.course peer s.stands.stand x.course_is there in
    let own : x.peer ≡ peer = some_one x.peer peer (sym x.peer_is ∙ there) in
    let rest : x.slot ≡ slot = some_one x.slot slot (sym x.slot_is ∙ slot_there) in
    record {
      input = found.0;
      has = found.1;
      at = x.at;
      at_is = x.at_is;
      course = x.course;
      course_is = x.course_is;
      config = is.0;
      before = record {
        is = is.1;
        here = subst (λ (l : Slot). IsSessionAt found.0 x.at x.course peer l) rest
            (subst (λ (p : PeerState). IsSessionAt found.0 x.at x.course p x.slot) own x.here);
        stands = stands.1;
        configured = stands.0 ∙ front.config ∙ is.1.configured;
        number = number;
      };
    }

-- how far the session is at the place
pub reached_is : (run : Run) (place : Place) (session : ℕ) (courses : List Course) (peer : PeerState) (slot : Slot)
    → (b : Begins run place session courses peer slot) → reached_at place session ≡ b.at
reached_is run place session courses peer slot b =
    get_or_from_slice_get place.sessions session b.at not_begun b.at_is

-- the text of the pull
pub text_is : (run : Run) (place : Place) (session : ℕ) (count : Option ℕ) (courses : List Course) (peer : PeerState)
    (slot : Slot) → (b : Begins run place session courses peer slot)
    → pull_text session b.input b.at (pulled (total b.input) count b.at)
    ≡ pull_text_of session (slice_get run.inputs session) count (reached_at place session)
text_is run place session count courses peer slot b =
    sym (ap (λ (i : Option Input). pull_text_of session i count (reached_at place session)) b.has
    ∙ ap (λ (at : Reached). pull_text session b.input at (pulled (total b.input) count at))
    (reached_is run place session courses peer slot b))

-- how far the session is after the pull
pub next_is : (run : Run) (place : Place) (session : ℕ) (count : Option ℕ) (courses : List Course) (peer : PeerState)
    (slot : Slot) → (b : Begins run place session courses peer slot)
    → pulled_of (slice_get run.inputs session) count (reached_at place session) ≡ pulled (total b.input) count b.at
next_is run place session count courses peer slot b =
    ap (λ (i : Option Input). pulled_of i count (reached_at place session)) b.has
    ∙ ap (λ (at : Reached). pulled (total b.input) count at) (reached_is run place session courses peer slot b)

pub took_by : (P Q : List ℕ → Type 0) (old new : Option (List ℕ)) → ((text : List ℕ) → P text → Q text)
    → TookAll P old new → TookAll Q old new
took_by P Q old new turn took =
    record { text = took.text; is = turn took.text took.is; appended = took.appended }

pub front_by : (P Q : List ℕ → Type 0) (old new : Option (List ℕ)) → ((text : List ℕ) → P text → Q text)
    → TookFront P old new → TookFront Q old new
front_by P Q old new turn took = record {
  front = took.front;
  more = took.more;
  is = turn (took.front ++ took.more) took.is;
  appended = took.appended;
}

-- a pull of one session, as the slots of a run tell it
pub record PullsAt (run : Run) (place : Place) (session : ℕ) (count : Option ℕ) (limits : Limits) (courses : List Course)
    (old_slots new_slots : List Slot) (old_held new_held : Option (List ℕ)) (result : Result (Unit {0}) RunFault)
    (old new : List PeerState) : Type 0 where
  pub peer : PeerState
  pub was : slice_get old session ≡ Some peer
  pub number : peer.number ≡ session
  pub later : PeerState
  pub is : new ≡ slice_set old session later
  pub slot : Slot
  pub had : slice_get old_slots session ≡ Some slot
  pub next : Slot
  pub has : new_slots ≡ slice_set old_slots session next
  pub gone : next ≡ None ↔ later.ended ≡ true
  pub begun : Begins run place session courses peer slot
  pub pull : Pull count limits (left_in slot) (left_in next) old_held new_held result peer later

-- a pull that met its end had memory
pub met_had : (count : Option ℕ) (limits : Limits) (old new : PeerState) (result : Result (Unit {0}) RunFault)
    → EndsBy count limits old new result → met_end old new ≡ true → HadMemory result
met_had count limits old new (Ok done) ends met = tt
met_had count limits old new (Err (refusal.ReadFault n)) ends met = tt
met_had count limits old new (Err refusal.WriteFault) ends met = tt
met_had count limits old new (Err (refusal.ItemLimit n)) ends met = tt
met_had count limits old new (Err (refusal.OctetLimit n)) ends met = tt
met_had count limits old new (Err refusal.OutOfMemory) ends met = absurd (unmet_clash old new ends.1 met)

told_empty : (old new : Option (List Event)) (rest : List Event) → old ≡ Some rest → IsEmptied old new → new ≡ Some []
told_empty None new rest is empty = let clash : None ≡ Some rest = is in cc
told_empty (Some events) new rest is empty = empty

-- what a slot has left behind a pull is what its feed has left
left_behind : (met : Bool) (left : Option (List Event)) → (met ≡ true → left ≡ Some [])
    → left ≡ left_in (slot_after met left)
left_behind true left emptied = emptied refl
left_behind false left emptied = refl

after_left : {F : Type 0} (left : F → Option (List Event)) (met : Bool) (feed : F)
    → option_map left (slot_after met feed) ≡ slot_after met (left feed)
after_left left true feed = refl
after_left left false feed = refl

gone_after : (met : Bool) (left : Option (List Event)) → slot_after met left ≡ None ↔ met ≡ true
gone_after true left = (λ is. refl, λ is. refl)
gone_after false left = (λ is. cc, λ is. cc)

pub is_false : (b : Bool) → (b ≡ true → ⊥) → b ≡ false
is_false true never = absurd (never refl)
is_false false never = refl

-- a pull of a session at its end does nothing
nothing_done : (count : Option ℕ) (limits : Limits) (old_held new_held : Option (List ℕ))
    (result : Result (Unit {0}) RunFault) (peer : PeerState) → IsOk result → new_held ≡ old_held → peer.ended ≡ true
    → Pull count limits (Some []) (Some []) old_held new_held result peer peer
nothing_done count limits old_held new_held (Ok done) peer ok same ended =
    subst (λ (held : Option (List ℕ)). Pull count limits (Some []) (Some []) old_held held (Ok done) peer peer)
    (sym same) (pull_after_end count limits (Some []) old_held peer ended)
nothing_done count limits old_held new_held (Err fault) peer ok same ended = cc

-- a pull of an empty slot
empty_at : {F : Type 0} (left : F → Option (List Event)) (run : Run) (place : Place) (session : ℕ)
    (count : Option ℕ) (result : Result (Unit {0}) RunFault) (old : ControlState) (new : List PeerState) (rounds : ℕ)
    (old_feeds new_feeds : List (Option F)) (old_held new_held : Option (List ℕ)) (peer later : PeerState)
    (next : Option F) → (s : IsAt run place old rounds (slots_of left old_feeds)) → session < length old.peers
    → slice_get old.peers session ≡ Some peer → peer.number ≡ session → new ≡ slice_set old.peers session later
    → slice_get old_feeds session ≡ Some None → new_feeds ≡ slice_set old_feeds session next
    → PullsNone next old_held new_held result peer later
    → PullsAt run place session count old.limits s.courses (slots_of left old_feeds) (slots_of left new_feeds) old_held
    new_held result old.peers new
empty_at {F = F} left run place session count result old new rounds old_feeds new_feeds old_held new_held peer later
    next s within was number is had has pull =
    let slots : List Slot = slots_of left old_feeds in
    let there : slice_get slots session ≡ Some None =
    slice_get-map (option_map left) old_feeds session ∙ ap (option_map (option_map left)) had in
    let b = begins run place old rounds slots session peer None s was there number within in
    let ended : peer.ended ≡ true = b.before.here.ended ∙ b.before.here.emptied.0 refl in
    record {
      peer = peer;
      was = was;
      number = number;
      later = peer;
      is = is ∙ ap (λ (p : PeerState). slice_set old.peers session p) pull.kept;
      slot = None;
      had = there;
      next = None;
      has = ap (slots_of left) has ∙ map-set (option_map left) old_feeds session next
          ∙ ap (λ (o : Option F). slice_set slots session (option_map left o)) pull.empty;
      gone = (λ is. ended, λ is. refl);
      begun = b;
      pull = nothing_done count old.limits old_held new_held result peer pull.done pull.wrote ended;
    }

-- a pull of a feed in its slot
feed_at : {F : Type 0} (left : F → Option (List Event)) (run : Run) (place : Place) (session : ℕ)
    (count : Option ℕ) (result : Result (Unit {0}) RunFault) (old : ControlState) (new : List PeerState) (rounds : ℕ)
    (old_feeds new_feeds : List (Option F)) (old_held new_held : Option (List ℕ)) (peer later : PeerState) (feed : F)
    (next : Option F) → (s : IsAt run place old rounds (slots_of left old_feeds)) → session < length old.peers
    → slice_get old.peers session ≡ Some peer → peer.number ≡ session → new ≡ slice_set old.peers session later
    → slice_get old_feeds session ≡ Some (Some feed) → new_feeds ≡ slice_set old_feeds session next
    → PullsFeed left count old.limits feed next old_held new_held result peer later
    → PullsAt run place session count old.limits s.courses (slots_of left old_feeds) (slots_of left new_feeds) old_held
    new_held result old.peers new
feed_at {F = F} left run place session count result old new rounds old_feeds new_feeds old_held new_held peer later
    feed next s within was number is had has pull =
    let slots : List Slot = slots_of left old_feeds in
    let there : slice_get slots session ≡ Some (Some (left feed)) =
    slice_get-map (option_map left) old_feeds session ∙ ap (option_map (option_map left)) had in
    let b = begins run place old rounds slots session peer (Some (left feed)) s was there number within in
    let here = b.before.here in
    let going : peer.ended ≡ false =
    is_false peer.ended (λ is. let clash : Some (left feed) ≡ None = here.emptied.1 (sym here.ended ∙ is) in cc) in
    let met : met_end peer later ≡ later.ended = ap (λ (b : Bool). not b && later.ended) going in
    let gone = gone_after (met_end peer later) (left pull.next) in
    let emptied : met_end peer later ≡ true → left pull.next ≡ Some [] = λ is.
    told_empty (left feed) (left pull.next) here.rest here.left_is
    ((pull.pull.pulled b.course.events b.course.effects b.before.stands
    (met_had count old.limits peer later result pull.pull.ends is)).emptied is).0 in
    record {
      peer = peer;
      was = was;
      number = number;
      later = later;
      is = is;
      slot = Some (left feed);
      had = there;
      next = slot_after (met_end peer later) (left pull.next);
      has = ap (slots_of left) has ∙ map-set (option_map left) old_feeds session next
          ∙ ap (λ (o : Option F). slice_set slots session (option_map left o)) pull.is
          ∙ ap (slice_set slots session) (after_left left (met_end peer later) pull.next);
      gone = (λ is. sym met ∙ gone.0 is, λ is. gone.1 (met ∙ is));
      begun = b;
      pull = subst (λ (l : Option (List Event)). Pull count old.limits (left feed) l old_held new_held result peer later)
          (left_behind (met_end peer later) (left pull.next) emptied) pull.pull;
    }

pub pulls_at : {F : Type 0} (left : F → Option (List Event)) (run : Run) (place : Place) (session : ℕ)
    (count : Option ℕ) (result : Result (Unit {0}) RunFault) (old : ControlState) (new : List PeerState) (rounds : ℕ)
    (old_feeds new_feeds : List (Option F)) (old_held new_held : Option (List ℕ)) (peer later : PeerState)
    (slot next : Option F) → (s : IsAt run place old rounds (slots_of left old_feeds)) → session < length old.peers
    → slice_get old.peers session ≡ Some peer → peer.number ≡ session → new ≡ slice_set old.peers session later
    → slice_get old_feeds session ≡ Some slot → new_feeds ≡ slice_set old_feeds session next
    → PullsSlot left count old.limits slot next old_held new_held result peer later
    → PullsAt run place session count old.limits s.courses (slots_of left old_feeds) (slots_of left new_feeds) old_held
    new_held result old.peers new
pulls_at left run place session count result old new rounds old_feeds new_feeds old_held new_held peer later
    None next s within was number is had has pull =
    empty_at left run place session count result old new rounds old_feeds new_feeds old_held new_held peer later
    next s within was number is had has pull
pulls_at left run place session count result old new rounds old_feeds new_feeds old_held new_held peer later
    (Some feed) next s within was number is had has pull =
    feed_at left run place session count result old new rounds old_feeds new_feeds old_held new_held peer later
    feed next s within was number is had has pull
