-- A session that stands for events, after one more item or one more event.
use Rattle.std.proofs.Common.{◌≡◌, ℕ, ◌+◌, ◌<◌, ◌≤◌, Bool, true, false, List, [], ◌∷◌, ◌++◌, length, drop, Option, Some}
use Rattle.std.proofs.Common.{None, refl, sym, ap, subst, ◌∙◌, append_assoc, arith, inl, length-append, lit<}
use Rattle.std.proofs.lemmas.List.{append-nil}
use Rattle.std.proofs.lemmas.List.Folds.{concat-append}
use Rattle.std.specs.Borrow.{Bor}
use Rattle.std.specs.List.{concat, AllByRecursion}
use Rattle.urpf_base.specs.declared.sessions.SessionConfig.{SessionConfig}
use Rattle.urpf_base.specs.declared.sessions.ResetCause.{ResetCause}
use Rattle.bgp_wire.specs.Header.{type_field}
use Rattle.bgp_wire.specs.Frames.{IsMessage, Framing, Fault, IsShort, IsFaulty}
use Rattle.bgp_wire.specs.States.{kind_of}
use Rattle.bgp_wire.specs.declared.kinds.MsgKind.{MsgKind}
use Rattle.feed_io.specs.Events.{Event}
use Rattle.adj_rib.specs.Routes.{Routes}
use Rattle.session_fsm.specs.declared.items.Effect.{Effect}
use Rattle.session_fsm.specs.declared.items.Item.TheVariants as fsm
use Rattle.session_fsm.specs.declared.states.State.{State}
use Rattle.session_fsm.specs.Table.{Outcome, SessionState, Step}
use Rattle.control_core.specs.States.{PeerState}
use Rattle.control_core.specs.Items.{Item, message, bad_header, Connection, connection_after, connection_at_end}
use Rattle.control_core.specs.Items.{AreItemsOf, AreItems, octet_count}
use Rattle.control_core.specs.Runs.{Takes, RunsFrom, Runs}
use Rattle.control_core.specs.History.{HasFault, HoldsConnection, StandsFor}
use Rattle.control_core.specs.ItemSteps.{Came, TookRow}
use Rattle.control_core.proofs.ItemLaws.{needed, needed_is, needed_only, needed_behind, none_needed, fault_needed}
use Rattle.control_core.proofs.ItemLaws.{framed_behind, still_faulty, brought, items_after, are_items, only_items}
use Rattle.control_core.proofs.ItemLaws.{items_after-append, connection_at_end-append}

-- one item after others
pub runs_one_more : (config : SessionConfig) (before : List Effect) (state : State) (items : List Item) (item : Item)
    (effects : List Effect) (last : State) (outcome : Outcome)
    → RunsFrom config before state items effects last → Takes config effects last item outcome
    → RunsFrom config before state (items ++ item ∷ []) (effects ++ outcome.1 ∷ []) outcome.0
runs_one_more config before state [] item effects last outcome is takes = (
  outcome,
  subst (λ (s : State). Takes config before s item outcome) is.1
      (subst (λ (es : List Effect). Takes config es last item outcome) is.0 takes),
  (ap (λ (es : List Effect). es ++ outcome.1 ∷ []) is.0, refl),
)
runs_one_more config before state (first ∷ items) item effects last outcome runs takes = (
  runs.0,
  runs.1,
  runs_one_more config (before ++ runs.0.1 ∷ []) runs.0.0 items item effects last outcome runs.2 takes,
)

-- a message is taken by its kind and its body
pub takes_message : (old new : SessionState) (whole : List ℕ) (kind : MsgKind) (body : Bor (List ℕ))
    (before : List Effect)
    (routes : Routes) (reset : Option ResetCause)
    → kind ≡ kind_of (type_field whole) → body.now ≡ drop 19 whole
    → (row : TookRow old (fsm.Message kind body) before new routes reset)
    → Takes old.config before old.state (message whole) row.outcome
takes_message old new whole kind body before routes reset is_kind is_body row = (
  row.row,
  (
    body,
    is_body,
    subst (λ (k : MsgKind). Step old.config old.state (fsm.Message k body) row.row) is_kind row.step,
  ),
  row.limited,
)

-- what is the same of a session and its octets before an item and after it
pub record SameBut (old new : PeerState) : Type 0 where
  pub config : new.session.config ≡ old.session.config
  pub items : new.session.items ≡ old.session.items + 1
  pub octets : new.octets ≡ old.octets

-- the items that were taken and this one
took_one : (old new : PeerState) (took : List Item) (item : Item) (effects : List Effect) (outcome : Outcome)
    (reset : Option ResetCause)
    → SameBut old new → Runs old.session.config took effects old.session.state
    → Takes old.session.config effects old.session.state item outcome
    → Came outcome effects new.session new.routes reset
    → Runs new.session.config (took ++ item ∷ []) (effects ++ outcome.1 ∷ []) new.session.state
took_one old new took item effects outcome reset same runs takes came =
    subst (λ (k : SessionConfig). Runs k (took ++ item ∷ []) (effects ++ outcome.1 ∷ []) new.session.state)
    (sym same.config)
    (subst (λ (s : State). Runs old.session.config (took ++ item ∷ []) (effects ++ outcome.1 ∷ []) s) (sym came.state)
    (runs_one_more old.session.config [] _ took item effects old.session.state outcome runs takes))

counted_one : (old new : PeerState) (effects : List Effect) (effect : Effect) → SameBut old new
    → old.session.items ≡ length effects → new.session.items ≡ length (effects ++ effect ∷ [])
counted_one old new effects effect same counted =
    let one = same.items in omega (arith, counted, one, length-append effects (effect ∷ []))

-- one more item of the octets that are held: the first of those still to be taken
pub stands_after_pending : (events : List Event) (effects : List Effect) (old new : PeerState) (outcome : Outcome)
    (reset : Option ResetCause) (item : Item) (later : List Item)
    → (stands : StandsFor events effects old) → SameBut old new → stands.pending ≡ item ∷ later
    → Takes old.session.config effects old.session.state item outcome
    → Came outcome effects new.session new.routes reset
    → HoldsConnection new.receiving (connection_at_end None events) new.held later
    → StandsFor events (effects ++ outcome.1 ∷ []) new
stands_after_pending events effects old new outcome reset item later stands same is takes came connection = record {
  took = stands.took ++ item ∷ [];
  pending = later;
  items = subst (AreItems events)
      (ap (λ (xs : List Item). stands.took ++ xs) is ∙ sym (append_assoc stands.took (item ∷ []) later)) stands.items;
  runs = took_one old new stands.took item effects outcome reset same stands.runs takes came;
  counted = counted_one old new effects outcome.1 same stands.counted;
  routes = came.holds;
  connection = connection;
  octets = same.octets ∙ stands.octets;
}

-- the items of one more event
pub items_one_more : (events : List Event) (event : Event) (items : List Item) → AreItems events items
    → AreItems (events ++ event ∷ []) (items ++ brought (connection_at_end None events) event)
unfolding items_after
items_one_more events event items are =
    let connection = connection_at_end None events in
    let all : items_after None (events ++ event ∷ []) ≡ items ++ brought connection event =
    items_after-append None events (event ∷ [])
    ∙ ap (λ (xs : List Item). xs ++ items_after connection (event ∷ [])) (sym (only_items None events items are))
    ∙ ap (λ (xs : List Item). items ++ xs) (append-nil (brought connection event)) in
    subst (AreItems (events ++ event ∷ [])) all (are_items None (events ++ event ∷ []))

-- an event that is an item, where none was still to be taken
pub stands_after_event : (events : List Event) (event : Event) (effects : List Effect) (old new : PeerState)
    (outcome : Outcome) (reset : Option ResetCause) (item : Item)
    → (stands : StandsFor events effects old) → SameBut old new → stands.pending ≡ []
    → brought (connection_at_end None events) event ≡ item ∷ []
    → octet_count (events ++ event ∷ []) ≡ octet_count events
    → Takes old.session.config effects old.session.state item outcome
    → Came outcome effects new.session new.routes reset
    → HoldsConnection new.receiving (connection_after (connection_at_end None events) event) new.held []
    → StandsFor (events ++ event ∷ []) (effects ++ outcome.1 ∷ []) new
stands_after_event events event effects old new outcome reset item stands same is brings none takes came connection =
    record {
      took = stands.took ++ item ∷ [];
      pending = [];
      items =
          let took : stands.took ++ stands.pending ≡ stands.took = ap (λ (xs : List Item). stands.took ++ xs) is
          ∙ append-nil stands.took in
          let are = items_one_more events event stands.took (subst (AreItems events) took stands.items) in
          subst (AreItems (events ++ event ∷ []))
          (ap (λ (xs : List Item). stands.took ++ xs) brings ∙ sym (append-nil (stands.took ++ item ∷ []))) are;
      runs = took_one old new stands.took item effects outcome reset same stands.runs takes came;
      counted = counted_one old new effects outcome.1 same stands.counted;
      routes = came.holds;
      connection =
          subst (λ (s : Connection). HoldsConnection new.receiving s new.held [])
          (sym (connection_at_end-append None events (event ∷ []))) connection;
      octets = same.octets ∙ stands.octets ∙ sym none;
    }

-- where the octets held are a part of a message, no item is still to be taken
pub none_pending : (receiving : Bool) (connection : Connection) (part : List ℕ) (pending : List Item) → IsShort part
    → HoldsConnection receiving connection part pending → pending ≡ []
none_pending true None part pending short holds = absurd holds
none_pending true (Some text) part pending short holds = needed_only part pending holds.items ∙ none_needed part short
none_pending false None part pending short holds = holds.1
none_pending false (Some text) part pending short holds = holds.1

-- the connection that has just begun
pub connection_begun : HoldsConnection true (Some []) [] []
connection_begun =
    record {
      used = [];
      parts = refl;
      each = tt;
      items = subst (AreItemsOf []) (none_needed [] (inl (lit< tt))) (needed_is []);
    }

-- octets begin with some, so they are not none
some_octets : (front rest : List ℕ) (count : ℕ) → count ≤ length front → 0 < count → front ++ rest ≡ [] → ⊥
some_octets front rest count long some none =
    let e : length (front ++ rest) ≡ 0 = ap length none in omega (arith, e, length-append front rest)

one_used : (used : List (List ℕ)) (front : List ℕ) → concat used ++ front ≡ concat (used ++ front ∷ [])
one_used used front =
    ap (λ (t : List ℕ). concat used ++ t) (sym (append-nil front)) ∙ sym (concat-append used (front ∷ []))

all_used : (used : List (List ℕ)) (front : List ℕ) → AllByRecursion IsMessage used → IsMessage front
    → AllByRecursion IsMessage (used ++ front ∷ [])
all_used [] front each is = (is, tt)
all_used (m ∷ ms) front each is = (each.0, all_used ms front each.1 is)

fault_of_framed : (used : List (List ℕ)) (behind : List ℕ) (each : AllByRecursion IsMessage used) (f : Framing behind)
    (subcode : ℕ) → f.end ≡ Fault subcode → (framed_behind used behind each f).end ≡ Fault subcode
unfolding framed_behind
fault_of_framed used behind each f subcode is = is

-- a text of messages and then a faulty header has a fault
pub fault_behind : (text : List ℕ) (used : List (List ℕ)) (behind : List ℕ) (subcode : ℕ) → text ≡ concat used ++ behind
    → AllByRecursion IsMessage used → IsFaulty behind subcode → HasFault text
fault_behind text used behind subcode parts each faulty =
    subst HasFault (sym parts) (record {
      framing =
          framed_behind used behind each
          (record {
            messages = [];
            rest = behind;
            end = Fault subcode;
            framed = record { parts = refl; each = tt; ends = faulty };
          });
      subcode = subcode;
      fault = fault_of_framed used behind each _ subcode refl;
    })

-- a message in front of the octets held is the first item still to be taken
pub message_pending : (connection : Connection) (front rest : List ℕ) (pending : List Item) → (receiving : Bool)
    → IsMessage front → HoldsConnection receiving connection (front ++ rest) pending
    → (pending ≡ message front ∷ needed rest) × HoldsConnection receiving connection rest (needed rest)
message_pending None front rest pending true is holds = absurd holds
message_pending (Some text) front rest pending true is holds = (
  needed_only (front ++ rest) pending holds.items ∙ ap (λ (t : List ℕ). needed (t ++ rest)) (sym (append-nil front))
      ∙ needed_behind (front ∷ []) rest (is, tt),
  record {
    used = holds.used ++ front ∷ [];
    parts = holds.parts ∙ sym (append_assoc (concat holds.used) front rest)
        ∙ ap (λ (t : List ℕ). t ++ rest) (one_used holds.used front);
    each = all_used holds.used front holds.each is;
    items = needed_is rest;
  },
)
message_pending None front rest pending false is holds = absurd (some_octets front rest 19 is.header (lit< tt) holds.0)
message_pending (Some text) front rest pending false is holds =
    absurd (some_octets front rest 19 is.header (lit< tt) holds.0)

-- a faulty header in front of the octets held is the only item still to be taken
pub fault_pending : (connection : Connection) (front rest : List ℕ) (pending : List Item) (subcode : ℕ)
    → (receiving : Bool) → IsFaulty front subcode → HoldsConnection receiving connection (front ++ rest) pending
    → (pending ≡ bad_header subcode ∷ []) × HoldsConnection false connection [] []
fault_pending None front rest pending subcode true is holds = absurd holds
fault_pending (Some text) front rest pending subcode true is holds = (
  needed_only (front ++ rest) pending holds.items
      ∙ fault_needed (front ++ rest) subcode (still_faulty front rest subcode is),
  (
    refl,
    refl,
    fault_behind text holds.used (front ++ rest) subcode holds.parts holds.each (still_faulty front rest subcode is),
  ),
)
fault_pending None front rest pending subcode false is holds =
    absurd (some_octets front rest 19 is.header (lit< tt) holds.0)
fault_pending (Some text) front rest pending subcode false is holds =
    absurd (some_octets front rest 19 is.header (lit< tt) holds.0)
