-- What a turn comes to: the item that it took, the octets held, or the end of the feed.
use Rattle.std.proofs.Common.{◌≡◌, ℕ, ◌+◌, Bool, true, false, List, [], ◌∷◌, ◌++◌, length, Option, Some}
use Rattle.std.proofs.Common.{None, Result, Ok, Err, refl, sym, ap, subst, ◌∙◌}
use Rattle.std.specs.Prelude.{OnErr, OnOk}
use Rattle.std.proofs.lemmas.List.{append-nil}
use Rattle.bgp_wire.specs.Frames.{End, Clean, IsShort}
use Rattle.feed_io.specs.Events.{Event}
use Rattle.feed_io.specs.declared.feeds.FeedEvent.TheVariants as feed
use Rattle.session_fsm.specs.declared.items.Effect.{Effect}
use Rattle.session_fsm.specs.Table.{SessionState}
use Rattle.control_core.specs.declared.limits.RunFault.{RunFault}
use Rattle.control_core.specs.declared.limits.RunFault.TheVariants.{ReadFault, WriteFault, ItemLimit, OctetLimit}
use Rattle.control_core.specs.declared.limits.RunFault.TheVariants.{OutOfMemory}
use Rattle.control_core.specs.declared.peering.Peering.{Peering}
use Rattle.control_core.specs.declared.peering.Turn.{Turn}
use Rattle.control_core.specs.declared.peering.Turn.TheVariants.{Took, Octets}
use Rattle.control_core.specs.declared.peering.Turn.TheVariants as turn
use Rattle.control_core.specs.Items.{Connection}
use Rattle.control_core.specs.Items.{connection_at_end, left_behind, LeavesOctets}
use Rattle.control_core.specs.Items.{IsRest}
use Rattle.control_core.specs.Effects.{HoldsAll}
use Rattle.control_core.specs.Peers.{held_octets, peer_of}
use Rattle.control_core.specs.States.{PeerState}
use Rattle.control_core.specs.History.{HoldsConnection, StandsFor}
use Rattle.control_core.specs.Runs.{Runs}
use Rattle.control_core.specs.TurnParts.{CountsItem, IsItem, TakesOne}
use Rattle.control_core.specs.Turns.{Counts, HadMemory, Shows, Turned}
use Rattle.control_core.specs.FeedCalls.{Fills, Gave, IsEmptied}
use Rattle.control_core.specs.declared.limits.Limits.{Limits}
use Rattle.control_core.proofs.TurnLaws.{idle}

-- a feed that was not asked gave nothing
pub gave_none : (left : Option (List Event)) → Gave left [] left
gave_none None = tt
gave_none (Some events) = refl

-- the items and octets of a turn that took an item, or that memory ran out for
counts_item : (result : Result Turn RunFault) (old begun new : PeerState) (limits : Limits)
    → begun.session.items ≡ old.session.items → begun.octets ≡ old.octets → begun.ended ≡ old.ended → IsItem result
    → OnOk result (CountsItem begun new) → OnErr result (new ≡ begun) → Counts result old new limits
counts_item (Ok (Took reset)) old begun new limits items count ended is counts kept = (
  counts.items ∙ ap (λ (n : ℕ). n + 1) items,
  counts.octets ∙ count,
  counts.ended ∙ ended,
)
counts_item (Ok Octets) old begun new limits items count ended is counts kept = absurd is
counts_item (Ok (turn.End rest)) old begun new limits items count ended is counts kept = absurd is
counts_item (Err (ReadFault session)) old begun new limits items count ended is counts kept =
    let clash : ReadFault session ≡ OutOfMemory = is in cc
counts_item (Err WriteFault) old begun new limits items count ended is counts kept =
    let clash : WriteFault ≡ OutOfMemory = is in cc
counts_item (Err (ItemLimit session)) old begun new limits items count ended is counts kept =
    let clash : ItemLimit session ≡ OutOfMemory = is in cc
counts_item (Err (OctetLimit session)) old begun new limits items count ended is counts kept =
    let clash : OctetLimit session ≡ OutOfMemory = is in cc
counts_item (Err OutOfMemory) old begun new limits items count ended is counts kept = (
  ap (λ (p : PeerState). p.session.items) kept ∙ items,
  ap (λ (p : PeerState). p.octets) kept ∙ count,
)

-- the same of a call that began with as many items and octets as the turn
pub counts_one : (gave : List Event) (result : Result Turn RunFault) (old begun new : PeerState) (limits : Limits)
    → begun.session.items ≡ old.session.items → begun.octets ≡ old.octets → begun.ended ≡ old.ended
    → TakesOne gave begun new result → Counts result old new limits
counts_one gave result old begun new limits items count ended one =
    counts_item result old begun new limits items count ended one.item one.counts one.kept

-- a turn that took an item of an event that came, or of no new one
pub turned_one : (events gave : List Event) (effects : List Effect) (old_left new_left : Option (List Event))
    (result : Result Turn RunFault) (old new : PeerState)
    → Gave old_left gave new_left → TakesOne gave old new result → StandsFor events effects old → HadMemory result
    → Turned events effects old_left new_left result new
turned_one events gave effects old_left new_left result old new told one stands memory =
    let took = one.took events effects stands memory in
    record {
      gave = gave;
      more = took.effect ∷ [];
      told = told;
      stands = took.stands;
      shows = subst (λ (r : Result Turn RunFault). Shows r (took.effect ∷ []) (events ++ gave) old_left new_left)
          (sym took.told) (took.effect, refl, refl);
    }

-- a turn that took no item
pub turned_none : (events gave : List Event) (effects : List Effect) (old_left new_left : Option (List Event))
    (result : Result Turn RunFault) (new : PeerState)
    → Gave old_left gave new_left → StandsFor (events ++ gave) effects new
    → Shows result [] (events ++ gave) old_left new_left → Turned events effects old_left new_left result new
turned_none events gave effects old_left new_left result new told stands shows = record {
  gave = gave;
  more = [];
  told = told;
  stands = subst (λ (es : List Effect). StandsFor (events ++ gave) es new) (sym (append-nil effects)) stands;
  shows = shows;
}

pub no_event : (events : List Event) (effects : List Effect) (new : PeerState) → StandsFor events effects new
    → StandsFor (events ++ []) effects new
no_event events effects new stands =
    subst (λ (es : List Event). StandsFor es effects new) (sym (append-nil events)) stands

-- a session with the same session, octets and routes stands for the same
pub stands_alike : (events : List Event) (effects : List Effect) (old new : PeerState) → StandsFor events effects old
    → new.session ≡ old.session → new.routes ≡ old.routes → new.octets ≡ old.octets → new.held ≡ old.held
    → new.receiving ≡ old.receiving
    → StandsFor events effects new
stands_alike events effects old new stands session rib count same receiving =
    let connection = connection_at_end None events in
    record {
      took = stands.took;
      pending = stands.pending;
      items = stands.items;
      runs = subst (λ (s : SessionState). Runs s.config stands.took effects s.state) (sym session) stands.runs;
      counted = ap (λ (s : SessionState). s.items) session ∙ stands.counted;
      routes = subst (HoldsAll effects) (sym rib) stands.routes;
      connection =
          subst (λ (b : Bool). HoldsConnection b connection (new.held) stands.pending) (sym receiving)
          (subst (λ (t : List ℕ). HoldsConnection old.receiving connection t stands.pending) (sym same)
          stands.connection);
      octets = count ∙ stands.octets;
    }

rest_of_connection : (connection : Connection) (part : List ℕ) (receiving : Bool) → IsShort part
    → HoldsConnection receiving connection part [] → LeavesOctets connection (length part)
rest_of_connection None part true short holds = absurd holds
rest_of_connection (Some text) part true short holds = (
  record {
    messages = holds.used;
    rest = part;
    end = Clean;
    framed = record { parts = holds.parts; each = holds.each; ends = short };
  },
  refl,
)
rest_of_connection None part false short holds = ap length holds.0
rest_of_connection (Some text) part false short holds =
    let is = holds.2 in
    (is.framing, ap length holds.0 ∙ sym (ap (λ (e : End). left_behind e is.framing.rest) is.fault))

-- at the end of the events the part of a message that is held is what is left
pub rest_is : (events : List Event) (effects : List Effect) (old : Peering) → StandsFor events effects (peer_of old)
    → IsShort old.reassembly.framer → old.reassembly.waiting ≡ [] → IsRest events (length old.reassembly.framer)
rest_is events effects old stands short none =
    let idle_now = idle events effects old stands short none in
    let all : held_octets old.reassembly ≡ old.reassembly.framer = ap (λ (t : List ℕ). old.reassembly.framer ++ t) none
    ∙ append-nil old.reassembly.framer in
    rest_of_connection (connection_at_end None events) old.reassembly.framer old.reassembly.receiving short
    (subst (λ (t : List ℕ). HoldsConnection old.reassembly.receiving (connection_at_end None events) t []) all
    (subst (HoldsConnection old.reassembly.receiving (connection_at_end None events) (held_octets old.reassembly))
    idle_now stands.connection))

-- a feed that came to its end has nothing left
pub emptied : (old new : Option (List Event)) (piece : List ℕ) → Fills old new (Ok feed.End) piece → IsEmptied old new
emptied None new piece fills = tt
emptied (Some old) new piece fills = fills.ends.1

-- a session beside whose octets none came
pub stands_unfilled : (events : List Event) (effects : List Effect) (old new : Peering)
    → StandsFor events effects (peer_of old) → old.reassembly.waiting ≡ []
    → new.session ≡ old.session → new.rib ≡ old.rib → new.octets ≡ old.octets
    → new.reassembly.framer ≡ old.reassembly.framer → new.reassembly.waiting ≡ []
    → new.reassembly.receiving ≡ old.reassembly.receiving
    → StandsFor events effects (peer_of new)
stands_unfilled events effects old new stands none session rib count framer waiting receiving =
    stands_alike events effects (peer_of old) (peer_of new) stands session rib count
    (ap (λ (t : List ℕ). t ++ new.reassembly.waiting) framer
    ∙ ap (λ (t : List ℕ). old.reassembly.framer ++ t) (waiting ∙ sym none)) receiving

-- the fault of an answer, or another where there is none
abbrev fault_or : RunFault → Result (Unit {0}) RunFault → RunFault
fault_or other (Ok done) = other
fault_or other (Err fault) = fault

-- a fault that a pull answers is the fault that a turn answers
pub same_answer : (fault other : RunFault) → ◌≡◌ {A = Result (Unit {0}) RunFault} (Err fault) (Err other)
    → ◌≡◌ {A = Result Turn RunFault} (Err fault) (Err other)
same_answer fault other same = ap (λ (f : RunFault). Err f) (ap (fault_or fault) same)
