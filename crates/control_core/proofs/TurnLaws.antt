-- A turn of a session with its feed: the item that it took, or the octets that came.
use Rattle.std.proofs.Common.{◌≡◌, ℕ, ◌+◌, Bool, true, false, List, [], ◌∷◌, ◌++◌, length, map, drop, Option, Some}
use Rattle.std.proofs.Common.{None, Result, Ok, Err, refl, sym, ap, subst, ◌∙◌, append_assoc, add-zero}
use Rattle.std.specs.Prelude.{IfOk, IsOk, OnErr, OnOk}
use Rattle.std.proofs.lemmas.List.{append_cancel_left, append-nil}
use Rattle.std.specs.List.{concat}
use Rattle.std.specs.Borrow.{Bor}
use Rattle.urpf_base.specs.declared.outside.OutOfMemory as memory
use Rattle.urpf_base.specs.declared.sessions.ResetCause.{ResetCause}
use Rattle.bgp_wire.specs.Header.{type_field}
use Rattle.bgp_wire.specs.Frames.{IsMessage, IsShort, IsFaulty, EndsAs}
use Rattle.bgp_wire.specs.States.{kind_of}
use Rattle.bgp_wire.specs.declared.kinds.MsgKind.{MsgKind}
use Rattle.feed_io.specs.Events.{Event, up, octets, down, elapsed}
use Rattle.session_fsm.specs.declared.items.Effect.{Effect}
use Rattle.session_fsm.specs.declared.items.Item.TheVariants as fsm
use Rattle.session_fsm.specs.Table.{SessionState}
use Rattle.control_core.specs.declared.limits.RunFault.{RunFault}
use Rattle.control_core.specs.declared.peering.Peering.{Peering}
use Rattle.control_core.specs.declared.peering.Turn.{Turn}
use Rattle.control_core.specs.declared.peering.Turn.TheVariants.{Took}
use Rattle.control_core.specs.Items.{Item, came_up, message, bad_header, went_down, passed, Connection}
use Rattle.control_core.specs.Items.{connection_after, connection_at_end, octet_count}
use Rattle.control_core.specs.Items.{AreItems, AreItemsOf}
use Rattle.control_core.specs.Effects.{HoldsAll}
use Rattle.control_core.specs.Peers.{held_octets, peer_of}
use Rattle.control_core.specs.States.{PeerState}
use Rattle.control_core.specs.History.{HasFault, HoldsConnection, IsUsedUpTo, StandsFor}
use Rattle.control_core.specs.declared.reassembly.Reassembly.{Reassembly}
use Rattle.control_core.specs.Runs.{Runs}
use Rattle.control_core.specs.ItemSteps.{TookRow}
use Rattle.control_core.specs.TurnParts.{CountsItem, IsItem, TakesOne, TookItem, answer_of}
use Rattle.control_core.specs.Turns.{HadMemory}
use Rattle.control_core.proofs.ItemLaws.{needed, needed_is, needed_behind, needed_more, none_needed, fault_needed}
use Rattle.control_core.proofs.ItemLaws.{still_faulty, brought, connection_at_end-append}
use Rattle.control_core.proofs.HistoryLaws.{SameBut, takes_message, stands_after_pending, stands_after_event}
use Rattle.control_core.proofs.HistoryLaws.{items_one_more, none_pending, connection_begun, message_pending}
use Rattle.control_core.proofs.HistoryLaws.{fault_behind, fault_pending}
use Rattle.control_core.proofs.OctetCounts.{octet_count-append}

-- a peering that holds no octets
holds_none_of : (receiving : Bool) (connection : Connection) (new : Peering) → new.reassembly.framer ≡ []
    → new.reassembly.waiting ≡ [] → new.reassembly.receiving ≡ receiving → HoldsConnection receiving connection [] []
    → HoldsConnection new.reassembly.receiving connection (held_octets new.reassembly) []
holds_none_of receiving connection new framer waiting is holds =
    let none : held_octets new.reassembly ≡ [] = ap (λ (t : List ℕ). t ++ new.reassembly.waiting) framer ∙ waiting in
    subst (λ (t : List ℕ). HoldsConnection new.reassembly.receiving connection t []) (sym none)
    (subst (λ (b : Bool). HoldsConnection b connection [] []) (sym is) holds)

-- where a part of a message is held, no item is still to be taken
pub idle : (events : List Event) (effects : List Effect) (old : Peering)
    → (stands : StandsFor events effects (peer_of old)) → IsShort old.reassembly.framer → old.reassembly.waiting ≡ []
    → stands.pending ≡ []
idle events effects old stands short none =
    let all : held_octets old.reassembly ≡ old.reassembly.framer = ap (λ (t : List ℕ). old.reassembly.framer ++ t) none
    ∙ append-nil old.reassembly.framer in
    none_pending old.reassembly.receiving (connection_at_end None events) (held_octets old.reassembly) stands.pending
    (subst IsShort (sym all) short) stands.connection

seconds_bring : (connection : Connection) (seconds : ℕ) → brought connection (elapsed seconds) ≡ passed seconds ∷ []
unfolding brought
seconds_bring None seconds = refl
seconds_bring (Some text) seconds = refl

seconds_stay : (connection : Connection) (seconds : ℕ) → connection_after connection (elapsed seconds) ≡ connection
seconds_stay None seconds = refl
seconds_stay (Some text) seconds = refl

-- more octets of a connection bring the items of what is held with them
more_held : (text part piece : List ℕ) → IsShort part → IsUsedUpTo text part []
    → IsUsedUpTo (text ++ piece) (part ++ piece) (needed_more text piece).0
more_held text part piece short is =
    let joined : text ++ piece ≡ concat is.used ++ (part ++ piece) = ap (λ (t : List ℕ). t ++ piece) is.parts
    ∙ append_assoc (concat is.used) part piece in
    let alone : needed text ≡ map message is.used = ap needed is.parts ∙ needed_behind is.used part is.each
    ∙ ap (λ (xs : List Item). map message is.used ++ xs) (none_needed part short) ∙ append-nil (map message is.used)
    in
    let both : map message is.used ++ (needed_more text piece).0 ≡ map message is.used ++ needed (part ++ piece) =
    ap (λ (xs : List Item). xs ++ (needed_more text piece).0) (sym alone) ∙ sym (needed_more text piece).1
    ∙ ap needed joined ∙ needed_behind is.used (part ++ piece) is.each in
    record {
      used = is.used;
      parts = joined;
      each = is.each;
      items = subst (AreItemsOf (part ++ piece))
          (sym (append_cancel_left (map message is.used) (needed_more text piece).0 (needed (part ++ piece)) both))
          (needed_is (part ++ piece));
    }

-- more octets behind a header fault bring nothing, and it stays
more_behind_fault : (text piece : List ℕ) → HasFault text → ((needed_more text piece).0 ≡ []) × HasFault (text ++ piece)
more_behind_fault text piece is =
    let f = is.framing in
    let faulty : IsFaulty f.rest is.subcode = subst (EndsAs f.rest) is.fault f.framed.ends in
    let still = still_faulty f.rest piece is.subcode faulty in
    let joined : text ++ piece ≡ concat f.messages ++ (f.rest ++ piece) = ap (λ (t : List ℕ). t ++ piece) f.framed.parts
    ∙ append_assoc (concat f.messages) f.rest piece in
    let alone : needed text ≡ map message f.messages ++ bad_header is.subcode ∷ [] = ap needed f.framed.parts
    ∙ needed_behind f.messages f.rest f.framed.each
    ∙ ap (λ (xs : List Item). map message f.messages ++ xs) (fault_needed f.rest is.subcode faulty) in
    let longer : needed (text ++ piece) ≡ map message f.messages ++ bad_header is.subcode ∷ [] = ap needed joined
    ∙ needed_behind f.messages (f.rest ++ piece) f.framed.each
    ∙ ap (λ (xs : List Item). map message f.messages ++ xs) (fault_needed (f.rest ++ piece) is.subcode still) in (
      append_cancel_left (needed text) (needed_more text piece).0 []
          (sym (needed_more text piece).1 ∙ longer ∙ sym alone ∙ sym (append-nil (needed text))),
      fault_behind (text ++ piece) f.messages (f.rest ++ piece) is.subcode joined f.framed.each still,
    )

-- what is held after octets came
octets_hold : (connection : Connection) (part piece : List ℕ) (receiving : Bool) (waiting : List ℕ)
    → (receiving ≡ true → waiting ≡ piece) → (receiving ≡ false → waiting ≡ []) → IsShort part
    → HoldsConnection receiving connection part []
    → HoldsConnection receiving (connection_after connection (octets piece)) (part ++ waiting)
    (brought connection (octets piece))
unfolding brought
octets_hold None part piece true waiting kept dropped short holds = absurd holds
octets_hold (Some text) part piece true waiting kept dropped short holds =
    subst (λ (w : List ℕ). IsUsedUpTo (text ++ piece) (part ++ w) (needed_more text piece).0) (sym (kept refl))
    (more_held text part piece short holds)
octets_hold None part piece false waiting kept dropped short holds =
    (ap (λ (w : List ℕ). part ++ w) (dropped refl) ∙ append-nil part ∙ holds.0, refl)
octets_hold (Some text) part piece false waiting kept dropped short holds =
    let more = more_behind_fault text piece holds.2 in
    (ap (λ (w : List ℕ). part ++ w) (dropped refl) ∙ append-nil part ∙ holds.0, more.0, more.1)

-- what a turn answers where an item was taken, by what it is after each of the two outcomes of memory
pub answered : (P : Result Turn RunFault → Type 0) (taken : Result (Option ResetCause) memory.OutOfMemory)
    (result : Result Turn RunFault) (Q : Option ResetCause → Type 0)
    → IfOk taken Q → result ≡ answer_of taken → HadMemory result
    → ((reset : Option ResetCause) → Q reset → P (Ok (Took reset))) → P result
answered P (Ok reset) result Q is same had make = subst P (sym same) (make reset is)
answered P (Err failed) result Q is same had make = absurd (subst HadMemory same had)

item_answered : (taken : Result (Option ResetCause) memory.OutOfMemory) (result : Result Turn RunFault)
    → result ≡ answer_of taken → IsItem result
item_answered (Ok reset) result same = subst IsItem (sym same) tt
item_answered (Err failed) result same = subst IsItem (sym same) refl

-- a call took an item of the octets held, or of an event, or memory ran out and it changed nothing
pub takes_one : (gave : List Event) (old new : PeerState) (taken : Result (Option ResetCause) memory.OutOfMemory)
    (result : Result Turn RunFault) → new.session.config ≡ old.session.config
    → OnOk taken (new.session.items ≡ old.session.items + 1) → new.octets ≡ old.octets → new.ended ≡ old.ended
    → new.number ≡ old.number → OnErr taken (new ≡ old) → result ≡ answer_of taken
    → (SameBut old new → (events : List Event) (effects : List Effect) → StandsFor events effects old
    → HadMemory result → TookItem (events ++ gave) effects new result)
    → TakesOne gave old new result
takes_one gave old new (Ok reset) result config items count ended number kept answer took = record {
  took = took (record { config = config; items = items; octets = count });
  counts = subst (λ (r : Result Turn RunFault). OnOk r (CountsItem old new)) (sym answer)
      (record { items = items; octets = count; ended = ended });
  kept = subst (λ (r : Result Turn RunFault). OnErr r (new ≡ old)) (sym answer) tt;
  item = item_answered (Ok reset) result answer;
  number = number;
  config = config;
}
takes_one gave old new (Err failed) result config items count ended number kept answer took = record {
  took = λ events effects stands memory. absurd (subst HadMemory answer memory);
  counts = subst (λ (r : Result Turn RunFault). OnOk r (CountsItem old new)) (sym answer) tt;
  kept = subst (λ (r : Result Turn RunFault). OnErr r (new ≡ old)) (sym answer) kept;
  item = item_answered (Err failed) result answer;
  number = number;
  config = config;
}

pub takes_held : (old new : PeerState) (taken : Result (Option ResetCause) memory.OutOfMemory)
    (result : Result Turn RunFault) → new.session.config ≡ old.session.config
    → OnOk taken (new.session.items ≡ old.session.items + 1) → new.octets ≡ old.octets → new.ended ≡ old.ended
    → new.number ≡ old.number → OnErr taken (new ≡ old) → result ≡ answer_of taken
    → (SameBut old new → (events : List Event) (effects : List Effect) → StandsFor events effects old
    → HadMemory result → TookItem events effects new result)
    → TakesOne [] old new result
takes_held old new taken result config items count ended number kept answer took =
    takes_one [] old new taken result config items count ended number kept answer
    (λ same events effects stands memory.
    subst (λ (es : List Event). TookItem es effects new result) (sym (append-nil events))
    (took same events effects stands memory))

-- an item that is no message takes no memory, so it was taken
pub never_kept : (P : Type 0) (taken : Result (Option ResetCause) memory.OutOfMemory) → OnErr taken ⊥ → OnErr taken P
never_kept P (Ok reset) never = tt
never_kept P (Err failed) never = absurd never

pub surely_taken : (taken : Result (Option ResetCause) memory.OutOfMemory) (result : Result Turn RunFault)
    → OnErr taken ⊥ → result ≡ answer_of taken → IsOk result
surely_taken (Ok reset) result never answer = subst IsOk (sym answer) refl
surely_taken (Err failed) result never answer = absurd never

-- what is to hold where an item was not taken, where it was taken and where it was not
pub kept_where_taken : (P : Type 0) (taken : Result (Option ResetCause) memory.OutOfMemory)
    (reset : Option ResetCause) → taken ≡ Ok reset → OnErr taken P
kept_where_taken P taken reset is =
    subst (λ (r : Result (Option ResetCause) memory.OutOfMemory). OnErr r P) (sym is) tt

pub kept_where_refused : (P : Type 0) (taken : Result (Option ResetCause) memory.OutOfMemory)
    (failed : memory.OutOfMemory) → taken ≡ Err failed → P → OnErr taken P
kept_where_refused P taken failed is holds =
    subst (λ (r : Result (Option ResetCause) memory.OutOfMemory). OnErr r P) (sym is) holds

-- two sessions that hold, count and have the same are the same
pub same_peer : (old new : PeerState) → new.number ≡ old.number → new.session ≡ old.session → new.routes ≡ old.routes
    → new.held ≡ old.held → new.receiving ≡ old.receiving → new.octets ≡ old.octets → new.ended ≡ old.ended
    → new ≡ old
same_peer old new number session routes held receiving count ended i = record {
  number = number i;
  session = session i;
  routes = routes i;
  held = held i;
  receiving = receiving i;
  octets = count i;
  ended = ended i;
}

-- the message in front was taken
pub took_message : (events : List Event) (effects : List Effect) (old new : Peering) (kind : MsgKind)
    (body : Bor (List ℕ)) (taken : Result (Option ResetCause) memory.OutOfMemory) (result : Result Turn RunFault)
    → StandsFor events effects (peer_of old) → IsMessage old.reassembly.framer
    → kind ≡ kind_of (type_field old.reassembly.framer) → body.now ≡ drop 19 old.reassembly.framer
    → SameBut (peer_of old) (peer_of new) → new.reassembly.framer ≡ [] → new.reassembly.waiting ≡ old.reassembly.waiting
    → new.reassembly.receiving ≡ old.reassembly.receiving
    → ((before : List Effect) → HoldsAll before old.rib
    → IfOk taken (TookRow old.session (fsm.Message kind body) before new.session new.rib))
    → result ≡ answer_of taken → HadMemory result → TookItem events effects (peer_of new) result
took_message events effects old new kind body taken result stands is is_kind is_body same framer waiting receiving took
    answer had =
    let connection = connection_at_end None events in
    let front =
    message_pending connection old.reassembly.framer old.reassembly.waiting stands.pending old.reassembly.receiving
    is stands.connection in
    let now : held_octets new.reassembly
    ≡ old.reassembly.waiting = ap (λ (t : List ℕ). t ++ new.reassembly.waiting) framer ∙ waiting in
    let holds : HoldsConnection new.reassembly.receiving connection (held_octets new.reassembly)
    (needed old.reassembly.waiting) =
    subst (λ (t : List ℕ). HoldsConnection new.reassembly.receiving connection t (needed old.reassembly.waiting))
    (sym now)
    (subst (λ (b : Bool). HoldsConnection b connection old.reassembly.waiting (needed old.reassembly.waiting))
    (sym receiving) front.1) in
    answered (TookItem events effects (peer_of new)) taken result
    (TookRow old.session (fsm.Message kind body) effects new.session new.rib) (took effects stands.routes) answer
    had
    (λ reset row. record {
      effect = row.outcome.1;
      stands =
          stands_after_pending events effects (peer_of old) (peer_of new) row.outcome reset
          (message old.reassembly.framer) (needed old.reassembly.waiting) stands same front.0
          (takes_message old.session new.session old.reassembly.framer kind body effects new.rib reset is_kind is_body
          row) row.came holds;
      told = ap (λ (r : Option ResetCause). Ok (Took r)) row.came.told;
    })

-- the header fault in front was taken
pub took_fault : (events : List Event) (effects : List Effect) (old new : Peering) (subcode : ℕ)
    (taken : Result (Option ResetCause) memory.OutOfMemory) (result : Result Turn RunFault)
    → StandsFor events effects (peer_of old) → IsFaulty old.reassembly.framer subcode
    → SameBut (peer_of old) (peer_of new) → new.reassembly.framer ≡ [] → new.reassembly.waiting ≡ []
    → new.reassembly.receiving ≡ false
    → ((before : List Effect) → HoldsAll before old.rib
    → IfOk taken (TookRow old.session (fsm.HeaderFault subcode) before new.session new.rib))
    → result ≡ answer_of taken → HadMemory result → TookItem events effects (peer_of new) result
took_fault events effects old new subcode taken result stands is same framer waiting receiving took answer had =
    let connection = connection_at_end None events in
    let front =
    fault_pending connection old.reassembly.framer old.reassembly.waiting stands.pending subcode
    old.reassembly.receiving is stands.connection in
    answered (TookItem events effects (peer_of new)) taken result
    (TookRow old.session (fsm.HeaderFault subcode) effects new.session new.rib) (took effects stands.routes) answer
    had
    (λ reset row. record {
      effect = row.outcome.1;
      stands =
          stands_after_pending events effects (peer_of old) (peer_of new) row.outcome reset (bad_header subcode) []
          stands same front.0
          (row.row, row.step, row.limited) row.came
          (holds_none_of false connection new framer waiting receiving front.1);
      told = ap (λ (r : Option ResetCause). Ok (Took r)) row.came.told;
    })

-- the transport came up
pub took_up : (events : List Event) (effects : List Effect) (old new : Peering)
    (taken : Result (Option ResetCause) memory.OutOfMemory) (result : Result Turn RunFault)
    → StandsFor events effects (peer_of old) → IsShort old.reassembly.framer → old.reassembly.waiting ≡ []
    → SameBut (peer_of old) (peer_of new) → new.reassembly.framer ≡ [] → new.reassembly.waiting ≡ []
    → new.reassembly.receiving ≡ true
    → ((before : List Effect) → HoldsAll before old.rib
    → IfOk taken (TookRow old.session fsm.Up before new.session new.rib))
    → result ≡ answer_of taken → HadMemory result → TookItem (events ++ up ∷ []) effects (peer_of new) result
unfolding brought
took_up events effects old new taken result stands short none same framer waiting receiving took answer had =
    answered (TookItem (events ++ up ∷ []) effects (peer_of new)) taken result
    (TookRow old.session fsm.Up effects new.session new.rib) (took effects stands.routes) answer had
    (λ reset row. record {
      effect = row.outcome.1;
      stands =
          stands_after_event events up effects (peer_of old) (peer_of new) row.outcome reset came_up stands same
          (idle events effects old stands short none) refl
          (octet_count-append events (up ∷ []) ∙ add-zero (octet_count events))
          (row.row, row.step, row.limited) row.came
          (holds_none_of true (Some []) new framer waiting receiving connection_begun);
      told = ap (λ (r : Option ResetCause). Ok (Took r)) row.came.told;
    })

-- the transport went down
pub took_down : (events : List Event) (effects : List Effect) (old new : Peering)
    (taken : Result (Option ResetCause) memory.OutOfMemory) (result : Result Turn RunFault)
    → StandsFor events effects (peer_of old) → IsShort old.reassembly.framer → old.reassembly.waiting ≡ []
    → SameBut (peer_of old) (peer_of new) → new.reassembly.framer ≡ [] → new.reassembly.waiting ≡ []
    → new.reassembly.receiving ≡ false
    → ((before : List Effect) → HoldsAll before old.rib
    → IfOk taken (TookRow old.session fsm.Down before new.session new.rib))
    → result ≡ answer_of taken → HadMemory result → TookItem (events ++ down ∷ []) effects (peer_of new) result
unfolding brought
took_down events effects old new taken result stands short none same framer waiting receiving took answer had =
    answered (TookItem (events ++ down ∷ []) effects (peer_of new)) taken result
    (TookRow old.session fsm.Down effects new.session new.rib) (took effects stands.routes) answer had
    (λ reset row. record {
      effect = row.outcome.1;
      stands =
          stands_after_event events down effects (peer_of old) (peer_of new) row.outcome reset went_down stands same
          (idle events effects old stands short none) refl
          (octet_count-append events (down ∷ []) ∙ add-zero (octet_count events))
          (row.row, row.step, row.limited) row.came
          (holds_none_of false None new framer waiting receiving (refl, refl));
      told = ap (λ (r : Option ResetCause). Ok (Took r)) row.came.told;
    })

-- seconds passed
pub took_seconds : (events : List Event) (effects : List Effect) (seconds : ℕ) (old new : Peering)
    (taken : Result (Option ResetCause) memory.OutOfMemory) (result : Result Turn RunFault)
    → StandsFor events effects (peer_of old) → IsShort old.reassembly.framer → old.reassembly.waiting ≡ []
    → SameBut (peer_of old) (peer_of new) → new.reassembly ≡ old.reassembly
    → ((before : List Effect) → HoldsAll before old.rib
    → IfOk taken (TookRow old.session (fsm.Elapsed seconds) before new.session new.rib))
    → result ≡ answer_of taken → HadMemory result
    → TookItem (events ++ elapsed seconds ∷ []) effects (peer_of new) result
unfolding brought
took_seconds events effects seconds old new taken result stands short none same reassembly took answer had =
    let connection = connection_at_end None events in
    let idle_now = idle events effects old stands short none in
    let before : HoldsConnection old.reassembly.receiving connection (held_octets old.reassembly) [] = subst
    (HoldsConnection old.reassembly.receiving connection (held_octets old.reassembly)) idle_now stands.connection in
    answered (TookItem (events ++ elapsed seconds ∷ []) effects (peer_of new)) taken result
    (TookRow old.session (fsm.Elapsed seconds) effects new.session new.rib) (took effects stands.routes) answer had
    (λ reset row. record {
      effect = row.outcome.1;
      stands =
          stands_after_event events (elapsed seconds) effects (peer_of old) (peer_of new) row.outcome reset
          (passed seconds) stands same idle_now (seconds_bring connection seconds)
          (octet_count-append events (elapsed seconds ∷ []) ∙ add-zero (octet_count events))
          (row.row, row.step, row.limited) row.came
          (subst (λ (s : Connection). HoldsConnection new.reassembly.receiving s (held_octets new.reassembly) [])
          (sym (seconds_stay connection seconds))
          (subst (λ (i : Reassembly). HoldsConnection i.receiving connection (held_octets i) [])
          (sym reassembly) before));
      told = ap (λ (r : Option ResetCause). Ok (Took r)) row.came.told;
    })

-- octets came
pub stands_with_octets : (events : List Event) (effects : List Effect) (piece : List ℕ) (old new : Peering)
    → StandsFor events effects (peer_of old) → IsShort old.reassembly.framer → old.reassembly.waiting ≡ []
    → new.session ≡ old.session → new.rib ≡ old.rib → new.octets ≡ old.octets + length piece
    → new.reassembly.framer ≡ old.reassembly.framer → new.reassembly.receiving ≡ old.reassembly.receiving
    → (old.reassembly.receiving ≡ true → new.reassembly.waiting ≡ piece)
    → (old.reassembly.receiving ≡ false → new.reassembly.waiting ≡ [])
    → StandsFor (events ++ octets piece ∷ []) effects (peer_of new)
stands_with_octets events effects piece old new stands short none session rib count framer receiving kept dropped =
    let connection = connection_at_end None events in
    let idle_now = idle events effects old stands short none in
    let before : HoldsConnection old.reassembly.receiving connection old.reassembly.framer [] = subst
    (λ (t : List ℕ). HoldsConnection old.reassembly.receiving connection t [])
    (ap (λ (t : List ℕ). old.reassembly.framer ++ t) none ∙ append-nil old.reassembly.framer)
    (subst (HoldsConnection old.reassembly.receiving connection (held_octets old.reassembly)) idle_now
    stands.connection) in
    let now =
    octets_hold connection old.reassembly.framer piece old.reassembly.receiving new.reassembly.waiting kept dropped
    short before in
    let took : stands.took ++ stands.pending ≡ stands.took = ap (λ (xs : List Item). stands.took ++ xs) idle_now
    ∙ append-nil stands.took in
    record {
      took = stands.took;
      pending = brought connection (octets piece);
      items = items_one_more events (octets piece) stands.took (subst (AreItems events) took stands.items);
      runs = subst (λ (s : SessionState). Runs s.config stands.took effects s.state) (sym session) stands.runs;
      counted = ap (λ (s : SessionState). s.items) session ∙ stands.counted;
      routes = subst (HoldsAll effects) (sym rib) stands.routes;
      connection =
          subst (λ (s : Connection). HoldsConnection new.reassembly.receiving s (held_octets new.reassembly)
          (brought connection (octets piece))) (sym (connection_at_end-append None events (octets piece ∷ [])))
          (subst (λ (t : List ℕ). HoldsConnection new.reassembly.receiving (connection_after connection (octets piece))
          (t ++ new.reassembly.waiting) (brought connection (octets piece))) (sym framer)
          (subst (λ (b : Bool). HoldsConnection b (connection_after connection (octets piece))
          (old.reassembly.framer ++ new.reassembly.waiting) (brought connection (octets piece))) (sym receiving)
          now));
      octets =
          count ∙ ap (λ n. n + length piece) stands.octets
          ∙ ap (λ n. octet_count events + n) (sym (add-zero (length piece)))
          ∙ sym (octet_count-append events (octets piece ∷ []));
    }
