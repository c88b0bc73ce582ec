-- Where a run reaches a limit of a session, out of what its pulls say.
use Rattle.std.proofs.Common.{◌≡◌, ℕ, ◌-◌, ◌≤◌, Bool, true, false, List, [], ◌∷◌, ◌++◌, length, Option, Some}
use Rattle.std.proofs.Common.{None, refl, sym, ap, subst, ◌∙◌, arith, length-append}
use Rattle.std.specs.Prelude.{slice_get}
use Rattle.std.proofs.lemmas.List.{append-nil}
use Rattle.std.proofs.lemmas.Option.{get_or_from_slice_get, slice_get-map, slice_get_within}
use Rattle.std.proofs.lemmas.Slice.Zip.{AllZip-long}
use Rattle.std.specs.Option.{option_map}
use Rattle.urpf_base.specs.declared.sessions.SessionConfig.{SessionConfig}
use Rattle.feed_io.specs.Events.{Event}
use Rattle.control_core.specs.FeedCalls.{Gave}
use Rattle.control_core.specs.History.{StandsFor}
use Rattle.control_core.specs.Items.{AreItems, Item, SameButCuts}
use Rattle.control_core.specs.Pulls.{asks_more}
use Rattle.control_core.specs.States.{ControlState, PeerState}
use Rattle.control_core.specs.Worlds.{Course}
use Rattle.control_core.specs.declared.limits.TheConstants.{ITEM_LIMIT}
use Rattle.control_core.specs.declared.limits.RunFault.{RunFault}
use Rattle.control_core.specs.declared.limits.RunFault.TheVariants as refusal
use Rattle.control_core.proofs.ItemLaws.{front_items, items_by_cuts}
use Rattle.control_core.proofs.Many.{stand_at}
use Rattle.control_core.proofs.Places.{some_at}
use Rattle.run_lines.specs.Inputs.{Input, IsInput, Run, events_of, total}
use Rattle.run_lines.specs.Limits.{AsksPast, FillsItems, FillsNone, FillsOctets, OfGiven, PullFillsItems}
use Rattle.run_lines.specs.Limits.{PullFillsOctets}
use Rattle.run_lines.specs.Limits.{StaysBelow, StepFills, asked_of}
use Rattle.run_lines.specs.Places.{Reached, not_begun, opening, place_after, reached_at}
use Rattle.run_lines.specs.Runs.{FillNone, IsAt, IsSessionAt, StepsStop, StopsAtLimit}
use Rattle.run_lines.specs.Slots.{Slot, left_in}
use Rattle.run_lines.specs.Steps.{Step, pull}
use Rattle.run_lines.proofs.Asking.{asked_of-append, asked_of-pull, asks_here, asks_none, reached_after, session_reached}
use Rattle.run_lines.proofs.Knowing.{input_length, octets_within, took_length}
use Rattle.run_lines.proofs.PullsAt.{input_at}
use Rattle.run_lines.proofs.SessionsAt.{session_at}

-- what a pull among steps asks for past some items, the pulls of its session ask for
asks_there : (run : Run) (sessions : List SessionConfig) (before later : List Step) (step : Step) (s : ℕ)
    (count : Option ℕ) (input : Input) (items : ℕ) → length sessions ≡ length run.inputs
    → slice_get run.inputs s ≡ Some input → step ≡ pull s count
    → (reached_at (place_after run.inputs before (opening sessions)) s).ended ≡ false
    → asks_more count (items - (reached_at (place_after run.inputs before (opening sessions)) s).taken) ≡ true
    → AsksPast (asked_of s (before ++ step ∷ later)) items
asks_there run sessions before later step s count input items long has pulls unmet asks =
    let reached =
    session_reached run.inputs sessions before s input has
    (omega (arith, long, slice_get_within run.inputs s input has)) in
    let all : AsksPast (asked_of s before ++ count ∷ asked_of s later) items =
    asks_here (total input) (asked_of s before) (asked_of s later) count items
    (ap (λ (at : Reached). at.ended) (sym reached) ∙ unmet)
    (ap (λ (at : Reached). asks_more count (items - at.taken)) (sym reached) ∙ asks) in
    let here : asked_of s (before ++ step ∷ later) ≡ asked_of s before ++ count ∷ asked_of s later =
    ap (λ (x : Step). asked_of s (before ++ x ∷ later)) pulls
    ∙ asked_of-append s before (pull s count ∷ later)
    ∙ ap (λ (counts : List (Option ℕ)). asked_of s before ++ counts) (asked_of-pull s count later) in
    subst (λ (counts : List (Option ℕ)). AsksPast counts items) (sym here) all

-- a step that came to a limit ends the run there
pub steps_limited : (run : Run) (sessions : List SessionConfig) (steps : List Step)
    (slots : List Slot) (fault : RunFault) (old new : Option (List ℕ)) → length sessions ≡ length run.inputs
    → StepsStop run (opening sessions) steps slots fault old new → StopsAtLimit run steps slots fault
steps_limited run sessions steps slots (refusal.ReadFault n) old new long stop = tt
steps_limited run sessions steps slots refusal.WriteFault old new long stop = tt
steps_limited run sessions steps slots (refusal.ItemLimit n) old new long stop =
    let stops : StepFills PullFillsItems run (place_after run.inputs stop.before (opening sessions)) stop.step n slots =
    stop.stops.limit in
    let given = stops.given in
    let fills = given.fills in
    record {
      input = given.input;
      has = given.has;
      slot = given.slot;
      leaves = given.leaves;
      gave = given.gave;
      told = given.told;
      fills = record {
        items = fills.items;
        are = fills.are;
        full = fills.full;
        asks = subst (λ (all : List Step). AsksPast (asked_of n all) ITEM_LIMIT) (sym stop.parts)
            (asks_there run sessions stop.before stop.later stop.step n stops.count given.input ITEM_LIMIT long
            given.has stops.pulls fills.unmet fills.asks);
      };
    }
steps_limited run sessions steps slots (refusal.OctetLimit n) old new long stop =
    let stops : StepFills PullFillsOctets run (place_after run.inputs stop.before (opening sessions)) stop.step n slots
    = stop.stops.limit in
    let given = stops.given in
    let fills = given.fills in
    record {
      input = given.input;
      has = given.has;
      slot = given.slot;
      leaves = given.leaves;
      gave = given.gave;
      told = given.told;
      fills = record {
        items = fills.items;
        are = fills.are;
        few = fills.few;
        full = fills.full;
        asks = subst (λ (all : List Step). AsksPast (asked_of n all) (length fills.items)) (sym stop.parts)
            (asks_there run sessions stop.before stop.later stop.step n stops.count given.input
            (length fills.items) long given.has stops.pulls fills.unmet fills.asks);
      };
    }
steps_limited run sessions steps slots refusal.OutOfMemory old new long stop = tt

-- the items of the events so far are no more than all
within_all : (config : SessionConfig) (input : Input) (gave rest : List Event) (items : List Item)
    → IsInput config input → SameButCuts input.course.events (gave ++ rest) → AreItems gave items
    → length items ≤ total input
within_all config input gave rest items is same are =
    let later =
    front_items gave rest items is.items are
    (items_by_cuts input.course.events (gave ++ rest) is.items same is.are) in
    omega (arith, input_length config input is, ap length later.1, length-append items later.0)

-- a session took no more items than the events so far have
taken_within : (items : List Item) (peer : PeerState) (course : Course)
    → StandsFor course.events course.effects peer → AreItems course.events items
    → length course.effects ≤ length items
taken_within items peer course stands are =
    let same =
    front_items course.events [] (stands.took ++ stands.pending) items stands.items
    (subst (λ (es : List Event). AreItems es items) (sym (append-nil course.events)) are) in
    omega (
      arith,
      took_length course.events course.effects peer stands,
      ap length same.1,
      length-append (stands.took ++ stands.pending) same.0,
      length-append stands.took stands.pending,
    )

-- a session that stands where its pulls bring it reached no limit that they ask past
fills_none : (config : SessionConfig) (input : Input) (at : Reached) (course : Course) (peer : PeerState)
    (slot : Slot) (counts : List (Option ℕ)) → IsInput config input
    → IsSessionAt input at course peer slot → StandsFor course.events course.effects peer
    → at ≡ reached_after (total input) counts not_begun → FillsNone counts course.events
fills_none config input at course peer slot counts is here stands reached =
    (no_items at.ended refl, no_octets at.ended refl)
  where
    unmet : at.ended ≡ false → (reached_after (total input) counts not_begun).ended ≡ false
    unmet going = ap (λ (r : Reached). r.ended) (sym reached) ∙ going

    upto : (items : ℕ) → at.taken ≤ items → (reached_after (total input) counts not_begun).taken ≤ items
    upto items less = subst (λ (r : Reached). r.taken ≤ items) reached less

    never : (items : ℕ) → at.ended ≡ false → at.taken ≤ items → AsksPast counts items → ⊥
    never items going less asks =
        asks_none (total input) counts not_begun items (unmet going) (upto items less)
        (subst (λ (n : ℕ). AsksPast counts n) (omega arith) asks)

    no_items : (b : Bool) → at.ended ≡ b → FillsItems counts course.events → ⊥
    no_items true end fills =
        omega (
          arith,
          here.few_items end,
          fills.full,
          within_all config input course.events here.rest fills.items is here.same fills.are,
        )
    no_items false going fills = never ITEM_LIMIT going here.within fills.asks

    no_octets : (b : Bool) → at.ended ≡ b → FillsOctets counts course.events → ⊥
    no_octets true end fills =
        omega (
          arith,
          here.few_octets end,
          fills.full,
          octets_within input.course.events course.events here.rest here.same,
        )
    no_octets false going fills =
        never (length fills.items) going
        (omega (arith, here.taken, taken_within fills.items peer course stands fills.are)) fills.asks

-- a run that came to the end of its steps reached no limit that they ask past
pub none_filled : (run : Run) (steps : List Step) (control : ControlState) (rounds : ℕ)
    (slots : List Slot)
    → IsAt run (place_after run.inputs steps (opening run.config.sessions)) control rounds slots
    → FillNone run steps slots
none_filled run steps control rounds slots s session within =
    let place = place_after run.inputs steps (opening run.config.sessions) in
    let found = some_at run.inputs session within in
    let x =
    session_at run.inputs place.sessions s.courses control.peers slots session found.0 s.sessions found.1 in
    let is = input_at run.config.sessions run.inputs session found.0 s.whole found.1 in
    let stands =
    stand_at s.courses control.peers session x.course x.peer s.stands.stand x.course_is x.peer_is in
    let long : length run.inputs ≡ length run.config.sessions =
    AllZip-long IsInput run.config.sessions run.inputs s.whole in
    let reached : x.at ≡ reached_after (total found.0) (asked_of session steps) not_begun =
    sym (get_or_from_slice_get place.sessions session x.at not_begun x.at_is)
    ∙ session_reached run.inputs run.config.sessions steps session found.0 found.1 (omega (arith, long, within)) in
    record {
      input = found.0;
      has = found.1;
      slot = x.slot;
      leaves = x.slot_is;
      gave = x.course.events;
      told = subst (λ (l : Option (List Event)). Gave (Some found.0.course.events) x.course.events l)
          (sym x.here.left_is) x.here.same;
      fills = fills_none is.0 found.0 x.at x.course x.peer x.slot (asked_of session steps) is.1 x.here stands.1
          reached;
    }

-- what a feed that tells its events gave, and the rest
given_told : (all gave : List Event) (left : Option (List Event)) → Gave (Some all) gave left
    → (rest : List Event) × SameButCuts all (gave ++ rest)
given_told all gave None told = absurd told
given_told all gave (Some rest) told = (rest, told)

-- what the feed of a session gave fills no limit that pulls ask past, where a run stays below its limits
below_given : (run : Run) (steps : List Step) (slots : List Slot) (s : ℕ)
    (Fills : List Event → Type 0) → StaysBelow (events_of run) steps → (given : OfGiven run s slots Fills)
    → FillsNone (asked_of s steps) given.gave
below_given run steps slots s Fills below given =
    let rest = given_told given.input.course.events given.gave (left_in given.slot) given.told in
    below s given.input.course.events
    (slice_get-map (λ (i : Input). i.course.events) run.inputs s
    ∙ ap (option_map (λ (i : Input). i.course.events)) given.has)
    given.gave rest.0 rest.1

-- a run that stays below its limits stops at none
pub below_done : (run : Run) (steps : List Step) (slots : List Slot) (fault : RunFault)
    → StaysBelow (events_of run) steps → StopsAtLimit run steps slots fault
    → ((n : ℕ) → fault ≡ refusal.ItemLimit n → ⊥) × ((n : ℕ) → fault ≡ refusal.OctetLimit n → ⊥)
below_done run steps slots (refusal.ReadFault s) below stops = (λ n is. cc, λ n is. cc)
below_done run steps slots refusal.WriteFault below stops = (λ n is. cc, λ n is. cc)
below_done run steps slots (refusal.ItemLimit s) below stops = (
  λ n is. (below_given run steps slots s (FillsItems (asked_of s steps)) below stops).0 stops.fills,
  λ n is. cc,
)
below_done run steps slots (refusal.OctetLimit s) below stops = (
  λ n is. cc,
  λ n is. (below_given run steps slots s (FillsOctets (asked_of s steps)) below stops).1 stops.fills,
)
below_done run steps slots refusal.OutOfMemory below stops = (λ n is. cc, λ n is. cc)
