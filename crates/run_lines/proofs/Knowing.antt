-- What is known of all events and items of a session from a peer that stands for the first of them.
use Rattle.std.proofs.Common.{◌≡◌, ℕ, ◌+◌, ◌≤◌, List, [], ◌∷◌, ◌++◌, length, map, Option, Some, None, refl, sym}
use Rattle.std.proofs.Common.{ap, subst, ◌∙◌, append_assoc, arith, length-append}
use Rattle.std.proofs.lemmas.List.{append-nil}
use Rattle.bgp_wire.specs.Frames.{IsShort}
use Rattle.feed_io.specs.Events.{Event, up, octets, down, elapsed}
use Rattle.urpf_base.specs.declared.sessions.SessionConfig.{SessionConfig}
use Rattle.session_fsm.specs.declared.items.Effect.{Effect}
use Rattle.session_fsm.specs.declared.states.State.{State}
use Rattle.session_fsm.specs.declared.states.State.TheVariants.{Idle}
use Rattle.control_core.specs.States.{PeerState}
use Rattle.control_core.specs.Items.{Item, AreItems, IsRest, LeavesOctets, SameButCuts, Connection, spread, octet_count}
use Rattle.control_core.specs.Items.{connection_at_end}
use Rattle.control_core.specs.Runs.{RunsFrom, Runs}
use Rattle.control_core.specs.History.{StandsFor}
use Rattle.control_core.specs.FeedCalls.{Gave}
use Rattle.control_core.proofs.ItemLaws.{front_items, items_by_cuts, left_once, same_connection, spread-append}
use Rattle.control_core.proofs.HistoryLaws.{none_pending}
use Rattle.control_core.proofs.RunLaws.{in_parts, one_run}
use Rattle.control_core.proofs.OctetCounts.{octet_count-append}
use Rattle.run_lines.specs.Inputs.{Input, IsInput, total}

-- each item has one effect
pub runs_length : (config : SessionConfig) (before : List Effect) (state : State) (items : List Item)
    (effects : List Effect) (last : State) → RunsFrom config before state items effects last
    → length effects ≡ length before + length items
runs_length config before state [] effects last runs = omega (arith, ap length runs.0)
runs_length config before state (item ∷ items) effects last runs =
    omega (
      arith,
      runs_length config (before ++ runs.0.1 ∷ []) runs.0.0 items effects last runs.2,
      length-append before (runs.0.1 ∷ []),
    )

-- a session that stands for events took as many items as it has effects
pub took_length : (events : List Event) (effects : List Effect) (peer : PeerState)
    → (stands : StandsFor events effects peer) → length effects ≡ length stands.took
took_length events effects peer stands =
    omega (arith, runs_length peer.session.config [] Idle stands.took effects peer.session.state stands.runs)

-- all items are as many as their effects
pub input_length : (config : SessionConfig) (input : Input) → (is : IsInput config input)
    → total input ≡ length is.items
input_length config input is =
    omega (arith, runs_length config [] Idle is.items input.course.effects is.last is.runs)

-- what a session that stands for the first events says of all effects
pub record Known (input : Input) (effects : List Effect) : Type 0 where
  pub later : List Effect
  pub parts : input.course.effects ≡ effects ++ later

pub known : (config : SessionConfig) (input : Input) (gave rest : List Event) (effects : List Effect)
    (peer : PeerState) → IsInput config input → SameButCuts input.course.events (gave ++ rest)
    → StandsFor gave effects peer → peer.session.config ≡ config → Known input effects
known config input gave rest effects peer is same stands own =
    let later =
    front_items gave rest (stands.took ++ stands.pending) is.items stands.items
    (items_by_cuts input.course.events (gave ++ rest) is.items same is.are) in
    let items : is.items ≡ stands.took ++ (stands.pending ++ later.0) = later.1
    ∙ append_assoc stands.took stands.pending later.0 in
    let split =
    in_parts config [] Idle stands.took (stands.pending ++ later.0) input.course.effects is.last
    (subst (λ (xs : List Item). Runs config xs input.course.effects is.last) items is.runs) in
    let front =
    one_run config stands.took split.first effects split.mid peer.session.state split.runs
    (subst (λ (k : SessionConfig). Runs k stands.took effects peer.session.state) own stands.runs) in
    record {
      later = split.later;
      parts = split.parts ∙ ap (λ (es : List Effect). es ++ split.later) front.0;
    }

pub within : (input : Input) (effects : List Effect) → Known input effects → length effects ≤ total input
within input effects known = omega (arith, ap length known.parts, length-append effects known.later)

-- where the feed has nothing left and no item is still to be taken, all items were taken
pub known_all : (config : SessionConfig) (input : Input) (gave : List Event) (effects : List Effect)
    (peer : PeerState) → IsInput config input → SameButCuts input.course.events (gave ++ [])
    → StandsFor gave effects peer → IsShort peer.held → length effects ≡ total input
known_all config input gave effects peer is same stands short =
    let later =
    front_items gave [] (stands.took ++ stands.pending) is.items stands.items
    (items_by_cuts input.course.events (gave ++ []) is.items same is.are) in
    let others =
    front_items (gave ++ []) [] is.items (stands.took ++ stands.pending)
    (items_by_cuts input.course.events (gave ++ []) is.items same is.are)
    (subst (λ (es : List Event). AreItems es (stands.took ++ stands.pending))
    (sym (append-nil (gave ++ []) ∙ append-nil gave)) stands.items) in
    let none =
    none_pending peer.receiving (connection_at_end None gave) peer.held stands.pending short stands.connection in
    omega (
      arith,
      took_length gave effects peer stands,
      input_length config input is,
      ap length none,
      ap length later.1,
      ap length others.1,
      length-append (stands.took ++ stands.pending) later.0,
      length-append is.items others.0,
      length-append stands.took stands.pending,
    )

-- what a feed that tells its events has left after a call
pub left_after : (rest gave : List Event) (new : Option (List Event)) → Gave (Some rest) gave new
    → (later : List Event) × (new ≡ Some later) × SameButCuts rest (gave ++ later)
left_after rest gave None told = absurd told
left_after rest gave (Some later) told = (later, refl, told)

-- the events that came before and those that came now
pub all_parts : (all gave rest more later : List Event) → SameButCuts all (gave ++ rest)
    → SameButCuts rest (more ++ later) → SameButCuts all ((gave ++ more) ++ later)
all_parts all gave rest more later same told =
    same ∙ spread-append gave rest ∙ ap (λ (es : List Event). spread gave ++ es) told
    ∙ sym (spread-append gave (more ++ later)) ∙ ap spread (sym (append_assoc gave more later))

-- the octets left behind at the end of all events
pub rest_of_all : (config : SessionConfig) (input : Input) (gave : List Event) (rest : ℕ) → IsInput config input
    → SameButCuts input.course.events (gave ++ []) → IsRest gave rest → rest ≡ input.rest
rest_of_all config input gave rest all same is =
    let connection : connection_at_end None gave
    ≡ connection_at_end None input.course.events =
    ap (connection_at_end None) (sym (append-nil gave))
    ∙ sym (same_connection None input.course.events (gave ++ []) same) in
    left_once (connection_at_end None input.course.events) rest input.rest
    (subst (λ (s : Connection). LeavesOctets s rest) connection is) all.left

-- how many octets came does not depend on cuts
octet_count-singles : (piece : List ℕ) (later : List Event)
    → octet_count (map (λ octet. octets (octet ∷ [])) piece ++ later) ≡ length piece + octet_count later
octet_count-singles [] later = omega arith
octet_count-singles (b ∷ bs) later = omega (arith, octet_count-singles bs later)

octet_count-spread : (events : List Event) → octet_count (spread events) ≡ octet_count events
octet_count-spread [] = refl
octet_count-spread (up ∷ events) = octet_count-spread events
octet_count-spread (octets piece ∷ events) =
    octet_count-singles piece (spread events) ∙ ap (λ (n : ℕ). length piece + n) (octet_count-spread events)
octet_count-spread (down ∷ events) = octet_count-spread events
octet_count-spread (elapsed seconds ∷ events) = octet_count-spread events

pub octets_parted : (all gave rest : List Event) → SameButCuts all (gave ++ rest)
    → octet_count all ≡ octet_count gave + octet_count rest
octets_parted all gave rest same =
    sym (octet_count-spread all) ∙ ap octet_count same ∙ octet_count-spread (gave ++ rest)
    ∙ octet_count-append gave rest

pub octets_within : (all gave rest : List Event) → SameButCuts all (gave ++ rest) → octet_count gave ≤ octet_count all
octets_within all gave rest same = omega (arith, octets_parted all gave rest same)
