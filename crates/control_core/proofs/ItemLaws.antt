-- The items of events: there is one list of them, more events bring more, and the places where octets are cut do not
-- count.
use Rattle.std.proofs.Common.{◌≡◌, ℕ, ◌≤◌, List, [], ◌∷◌, ◌++◌, length, map, Some, None, refl, sym, ap, subst, ◌∙◌}
use Rattle.std.proofs.Common.{append_assoc, arith, length-append}
use Rattle.std.specs.Prelude.{◌↔◌}
use Rattle.std.proofs.lemmas.List.{append_cancel_left, map-append, append-nil}
use Rattle.std.proofs.lemmas.List.Folds.{concat-append}
use Rattle.std.specs.List.{concat, AllByRecursion}
use Rattle.bgp_wire.specs.Frames.{IsMessage, Framing, End, Clean, Fault, EndsAs, IsShort, IsFaulty}
use Rattle.bgp_wire.proofs.Headers.{header_fault-append}
use Rattle.bgp_wire.proofs.Framings.{has_framing, one_framing}
use Rattle.feed_io.specs.Events.{Event, up, octets, down, elapsed}
use Rattle.control_core.specs.Items.{Item, came_up, message, bad_header, went_down, passed, Connection}
use Rattle.control_core.specs.Items.{connection_after, connection_at_end, end_items, AreItemsOf, BringsItems, Brings}
use Rattle.control_core.specs.Items.{AreItemsAfter, AreItems, left_behind, LeavesOctets, IsRest, spread, SameButCuts}

-- the items of a text
pub needed : List ℕ → List Item
needed text = map message (has_framing text).messages ++ end_items (has_framing text).end

pub needed_is : (text : List ℕ) → AreItemsOf text (needed text)
unfolding needed
needed_is text = record { framing = has_framing text; same = refl }

-- by any framing of it
pub needed_by : (text : List ℕ) (f : Framing text) → map message f.messages ++ end_items f.end ≡ needed text
unfolding needed
needed_by text f =
    let same = one_framing text f (has_framing text) in
    ap (λ (ms : List (List ℕ)). map message ms ++ end_items f.end) same.0
    ∙ ap (λ (e : End). map message (has_framing text).messages ++ end_items e) same.2

pub needed_only : (text : List ℕ) (items : List Item) → AreItemsOf text items → items ≡ needed text
needed_only text items is = is.same ∙ needed_by text is.framing

pub all-append : (P : List ℕ → Type 0) (xs ys : List (List ℕ)) → AllByRecursion P xs → AllByRecursion P ys
    → AllByRecursion P (xs ++ ys)
all-append P [] ys first second = second
all-append P (x ∷ xs) ys first second = (first.0, all-append P xs ys first.1 second)

-- messages in front of a text that is framed
unfoldable pub framed_behind : (used : List (List ℕ)) (text : List ℕ) → AllByRecursion IsMessage used → Framing text
    → Framing (concat used ++ text)
framed_behind used text each f = record {
  messages = used ++ f.messages;
  rest = f.rest;
  end = f.end;
  framed = record {
    parts = ap (λ t. concat used ++ t) f.framed.parts ∙ sym (append_assoc (concat used) (concat f.messages) f.rest)
        ∙ ap (λ t. t ++ f.rest) (sym (concat-append used f.messages));
    each = all-append IsMessage used f.messages each f.framed.each;
    ends = f.framed.ends;
  };
}

-- messages in front of a text are items before those of the text
pub needed_behind : (used : List (List ℕ)) (text : List ℕ) → AllByRecursion IsMessage used
    → needed (concat used ++ text) ≡ map message used ++ needed text
unfolding needed framed_behind
needed_behind used text each =
    let f = has_framing text in
    sym (needed_by (concat used ++ text) (framed_behind used text each f))
    ∙ ap (λ (xs : List Item). xs ++ end_items f.end) (map-append message used f.messages)
    ∙ append_assoc (map message used) (map message f.messages) (end_items f.end)

-- a text that is no whole message has no items
pub none_needed : (text : List ℕ) → IsShort text → needed text ≡ []
none_needed text short =
    sym (needed_by text
    (record { messages = []; rest = text; end = Clean; framed = record { parts = refl; each = tt; ends = short } }))

-- a text that begins with a faulty header has its fault
pub fault_needed : (text : List ℕ) (subcode : ℕ) → IsFaulty text subcode → needed text ≡ bad_header subcode ∷ []
fault_needed text subcode faulty =
    sym (needed_by text
    (record {
      messages = [];
      rest = text;
      end = Fault subcode;
      framed = record { parts = refl; each = tt; ends = faulty };
    }))

pub still_faulty : (rest piece : List ℕ) (subcode : ℕ) → IsFaulty rest subcode → IsFaulty (rest ++ piece) subcode
still_faulty rest piece subcode faulty = record {
  header = let header : 19 ≤ length rest = faulty.header in omega (arith, length-append rest piece);
  fault = header_fault-append rest piece faulty.header ∙ faulty.fault;
}

-- what a text with a rest of this end gets by a piece more
more_by_end : (text piece : List ℕ) (f : Framing text) (end : End) → EndsAs f.rest end → f.end ≡ end
    → (more : List Item) × (needed (text ++ piece) ≡ needed text ++ more)
more_by_end text piece f Clean ends is = (
  needed (f.rest ++ piece),
  let joined : text ++ piece ≡ concat f.messages ++ (f.rest ++ piece) = ap (λ t. t ++ piece) f.framed.parts
      ∙ append_assoc (concat f.messages) f.rest piece in
      let alone : needed text ≡ map message f.messages = sym (needed_by text f)
      ∙ ap (λ (e : End). map message f.messages ++ end_items e) is ∙ append-nil (map message f.messages) in
      ap needed joined ∙ needed_behind f.messages (f.rest ++ piece) f.framed.each
      ∙ ap (λ (xs : List Item). xs ++ needed (f.rest ++ piece)) (sym alone),
)
more_by_end text piece f (Fault subcode) ends is = (
  [],
  let joined : text ++ piece ≡ concat f.messages ++ (f.rest ++ piece) = ap (λ t. t ++ piece) f.framed.parts
      ∙ append_assoc (concat f.messages) f.rest piece in
      let faulty : IsFaulty (f.rest ++ piece) subcode = still_faulty f.rest piece subcode ends in
      let alone : needed text ≡ map message f.messages ++ bad_header subcode ∷ [] = sym (needed_by text f)
      ∙ ap (λ (e : End). map message f.messages ++ end_items e) is in
      ap needed joined ∙ needed_behind f.messages (f.rest ++ piece) f.framed.each
      ∙ ap (λ (xs : List Item). map message f.messages ++ xs) (fault_needed (f.rest ++ piece) subcode faulty)
      ∙ sym alone ∙ sym (append-nil (needed text)),
)

-- a text with a piece more has the items of the text, and more
pub needed_more : (text piece : List ℕ) → (more : List Item) × (needed (text ++ piece) ≡ needed text ++ more)
needed_more text piece =
    more_by_end text piece (has_framing text) (has_framing text).end (has_framing text).framed.ends refl

-- the items that stand at one event
unfoldable pub brought : Connection → Event → List Item
brought connection up = came_up ∷ []
brought None (octets piece) = []
brought (Some text) (octets piece) = (needed_more text piece).0
brought connection down = went_down ∷ []
brought connection (elapsed seconds) = passed seconds ∷ []

pub brought_is : (connection : Connection) (event : Event) → Brings connection event (brought connection event)
unfolding brought
brought_is connection up = refl
brought_is None (octets piece) = refl
brought_is (Some text) (octets piece) = record {
  before = needed text;
  without = needed_is text;
  with_it = subst (AreItemsOf (text ++ piece)) (needed_more text piece).1 (needed_is (text ++ piece));
}
brought_is connection down = refl
brought_is connection (elapsed seconds) = refl

brought_by : (text piece : List ℕ) (items : List Item) → BringsItems text piece items
    → items ≡ (needed_more text piece).0
brought_by text piece items brings =
    let first : brings.before ≡ needed text = needed_only text brings.before brings.without in
    let both : brings.before ++ items ≡ needed text
    ++ (needed_more text piece).0 =
    needed_only (text ++ piece) (brings.before ++ items) brings.with_it ∙ (needed_more text piece).1 in
    append_cancel_left (needed text) items (needed_more text piece).0
    (ap (λ (xs : List Item). xs ++ items) (sym first) ∙ both)

pub brought_only : (connection : Connection) (event : Event) (items : List Item) → Brings connection event items
    → items ≡ brought connection event
unfolding brought
brought_only connection up items is = is
brought_only None (octets piece) items is = is
brought_only (Some text) (octets piece) items brings = brought_by text piece items brings
brought_only connection down items is = is
brought_only connection (elapsed seconds) items is = is

-- the items of events behind a connection
unfoldable pub items_after : Connection → List Event → List Item
items_after connection [] = []
items_after connection (event ∷ events) =
    brought connection event ++ items_after (connection_after connection event) events

pub are_items : (connection : Connection) (events : List Event)
    → AreItemsAfter connection events (items_after connection events)
unfolding items_after
are_items connection [] = refl
are_items connection (event ∷ events) = (
  brought connection event,
  items_after (connection_after connection event) events,
  refl,
  brought_is connection event,
  are_items (connection_after connection event) events,
)

pub only_items : (connection : Connection) (events : List Event) (items : List Item)
    → AreItemsAfter connection events items → items ≡ items_after connection events
unfolding items_after
only_items connection [] items is = is
only_items connection (event ∷ events) items is =
    is.2 ∙ ap (λ (xs : List Item). xs ++ is.1) (brought_only connection event is.0 is.3)
    ∙ ap (λ (xs : List Item). brought connection event ++ xs)
    (only_items (connection_after connection event) events is.1 is.4)

-- events one after the other
pub connection_at_end-append : (connection : Connection) (events later : List Event)
    → connection_at_end connection (events ++ later) ≡ connection_at_end (connection_at_end connection events) later
connection_at_end-append connection [] later = refl
connection_at_end-append connection (event ∷ events) later =
    connection_at_end-append (connection_after connection event) events later

pub items_after-append : (connection : Connection) (events later : List Event)
    → items_after connection (events ++ later) ≡ items_after connection events
    ++ items_after (connection_at_end connection events) later
unfolding items_after
items_after-append connection [] later = refl
items_after-append connection (event ∷ events) later =
    ap (λ (xs : List Item). brought connection event ++ xs)
    (items_after-append (connection_after connection event) events later)
    ∙ sym (append_assoc (brought connection event) (items_after (connection_after connection event) events)
    (items_after (connection_at_end connection (event ∷ events)) later))

-- a piece cut into two brings in two what it brings in one
brought_cut : (text first second : List ℕ)
    → (needed_more text (first ++ second)).0 ≡ (needed_more text first).0 ++ (needed_more (text ++ first) second).0
brought_cut text first second =
    let one = needed_more text first in
    let two = needed_more (text ++ first) second in
    let all = needed_more text (first ++ second) in
    append_cancel_left (needed text) all.0 (one.0 ++ two.0)
    (sym all.1 ∙ ap needed (sym (append_assoc text first second)) ∙ two.1 ∙ ap (λ (xs : List Item). xs ++ two.0) one.1
    ∙ append_assoc (needed text) one.0 two.0)

pub brought-cut : (connection : Connection) (first second : List ℕ)
    → brought connection (octets (first ++ second)) ≡ brought connection (octets first)
    ++ brought (connection_after connection (octets first)) (octets second)
unfolding brought
brought-cut None first second = refl
brought-cut (Some text) first second = brought_cut text first second

pub connection_after-cut : (connection : Connection) (first second : List ℕ)
    → connection_after connection (octets (first ++ second))
    ≡ connection_after (connection_after connection (octets first)) (octets second)
connection_after-cut None first second = refl
connection_after-cut (Some text) first second = ap (λ t. Some t) (sym (append_assoc text first second))

brought_by_none : (text : List ℕ) → (needed_more text []).0 ≡ []
brought_by_none text =
    let more = needed_more text [] in
    append_cancel_left (needed text) more.0 []
    (sym more.1 ∙ ap needed (append-nil text) ∙ sym (append-nil (needed text)))

brought-none : (connection : Connection) → brought connection (octets []) ≡ []
unfolding brought
brought-none None = refl
brought-none (Some text) = brought_by_none text

connection_after-none : (connection : Connection) → connection_after connection (octets []) ≡ connection
connection_after-none None = refl
connection_after-none (Some text) = ap (λ t. Some t) (append-nil text)

-- octets each in an event of its own
abbrev singles : List ℕ → List Event
singles piece = map (λ octet. octets (octet ∷ [])) piece

spread_piece : (connection : Connection) (piece : List ℕ) (later : List Event)
    → items_after connection (singles piece ++ later) ≡ brought connection (octets piece)
    ++ items_after (connection_after connection (octets piece)) later
unfolding items_after
spread_piece connection [] later =
    ap (λ (s : Connection). items_after s later) (sym (connection_after-none connection))
    ∙ ap (λ (xs : List Item). xs ++ items_after (connection_after connection (octets [])) later)
    (sym (brought-none connection))
spread_piece connection (b ∷ bs) later =
    let next = connection_after connection (octets (b ∷ [])) in
    ap (λ (xs : List Item). brought connection (octets (b ∷ [])) ++ xs) (spread_piece next bs later)
    ∙ sym (append_assoc (brought connection (octets (b ∷ []))) (brought next (octets bs))
    (items_after (connection_after next (octets bs)) later))
    ∙ ap (λ (xs : List Item). xs ++ items_after (connection_after next (octets bs)) later)
    (sym (brought-cut connection (b ∷ []) bs))
    ∙ ap (λ (s : Connection). brought connection (octets (b ∷ bs)) ++ items_after s later)
    (sym (connection_after-cut connection (b ∷ []) bs))

-- the places where octets are cut do not count
pub items_after-spread : (connection : Connection) (events : List Event)
    → items_after connection (spread events) ≡ items_after connection events
unfolding items_after brought
items_after-spread connection [] = refl
items_after-spread connection (up ∷ events) =
    ap (λ (xs : List Item). came_up ∷ xs) (items_after-spread (Some []) events)
items_after-spread connection (octets piece ∷ events) =
    spread_piece connection piece (spread events)
    ∙ ap (λ (xs : List Item). brought connection (octets piece) ++ xs)
    (items_after-spread (connection_after connection (octets piece)) events)
items_after-spread connection (down ∷ events) = ap (λ (xs : List Item). went_down ∷ xs) (items_after-spread None events)
items_after-spread connection (elapsed seconds ∷ events) =
    ap (λ (xs : List Item). passed seconds ∷ xs) (items_after-spread connection events)

pub connection_of_piece : (connection : Connection) (piece : List ℕ) (later : List Event)
    → connection_at_end connection (singles piece ++ later)
    ≡ connection_at_end (connection_after connection (octets piece)) later
connection_of_piece connection [] later =
    ap (λ (s : Connection). connection_at_end s later) (sym (connection_after-none connection))
connection_of_piece connection (b ∷ bs) later =
    connection_of_piece (connection_after connection (octets (b ∷ []))) bs later
    ∙ ap (λ (s : Connection). connection_at_end s later) (sym (connection_after-cut connection (b ∷ []) bs))

pub connection_at_end-spread : (connection : Connection) (events : List Event)
    → connection_at_end connection (spread events) ≡ connection_at_end connection events
connection_at_end-spread connection [] = refl
connection_at_end-spread connection (up ∷ events) = connection_at_end-spread (Some []) events
connection_at_end-spread connection (octets piece ∷ events) =
    connection_of_piece connection piece (spread events)
    ∙ connection_at_end-spread (connection_after connection (octets piece)) events
connection_at_end-spread connection (down ∷ events) = connection_at_end-spread None events
connection_at_end-spread connection (elapsed seconds ∷ events) = connection_at_end-spread connection events

pub spread-append : (events later : List Event) → spread (events ++ later) ≡ spread events ++ spread later
spread-append [] later = refl
spread-append (up ∷ events) later = ap (λ (es : List Event). up ∷ es) (spread-append events later)
spread-append (octets piece ∷ events) later =
    ap (λ (es : List Event). singles piece ++ es) (spread-append events later)
    ∙ sym (append_assoc (singles piece) (spread events) (spread later))
spread-append (down ∷ events) later = ap (λ (es : List Event). down ∷ es) (spread-append events later)
spread-append (elapsed seconds ∷ events) later =
    ap (λ (es : List Event). elapsed seconds ∷ es) (spread-append events later)

-- events that differ in cuts alone have the same items
pub same_items : (connection : Connection) (events others : List Event) → SameButCuts events others
    → items_after connection events ≡ items_after connection others
same_items connection events others same =
    sym (items_after-spread connection events) ∙ ap (items_after connection) same ∙ items_after-spread connection others

pub same_connection : (connection : Connection) (events others : List Event) → SameButCuts events others
    → connection_at_end connection events ≡ connection_at_end connection others
same_connection connection events others same =
    sym (connection_at_end-spread connection events) ∙ ap (connection_at_end connection) same
    ∙ connection_at_end-spread connection others

-- what a connection leaves behind is one number
pub left_once : (connection : Connection) (a b : ℕ) → LeavesOctets connection a → LeavesOctets connection b → a ≡ b
left_once None a b first second = first ∙ sym second
left_once (Some text) a b first second =
    let same = one_framing text first.0 second.0 in
    first.1 ∙ ap (λ (e : End). left_behind e first.0.rest) same.2 ∙ ap (left_behind second.0.end) same.1 ∙ sym second.1

pub items_by_cuts : (events others : List Event) (items : List Item) → SameButCuts events others → AreItems events items
    → AreItems others items
items_by_cuts events others items same are =
    subst (AreItems others) (sym (only_items None events items are ∙ same_items None events others same))
    (are_items None others)

pub rest_by_cuts : (events others : List Event) (count : ℕ) → SameButCuts events others → IsRest events count
    → IsRest others count
rest_by_cuts events others count same is =
    subst (λ (s : Connection). LeavesOctets s count) (same_connection None events others same) is

-- one cut more
cut_once : (before after : List Event) (first second : List ℕ)
    → SameButCuts (before ++ octets (first ++ second) ∷ after) (before ++ octets first ∷ octets second ∷ after)
cut_once before after first second =
    spread-append before (octets (first ++ second) ∷ after)
    ∙ ap (λ (es : List Event). spread before ++ (es ++ spread after))
    (map-append (λ octet. octets (octet ∷ [])) first second)
    ∙ ap (λ (es : List Event). spread before ++ es) (append_assoc (singles first) (singles second) (spread after))
    ∙ sym (spread-append before (octets first ∷ octets second ∷ after))

pub items_cut_once : (before after : List Event) (first second : List ℕ) (items : List Item)
    → AreItems (before ++ octets (first ++ second) ∷ after) items
    ↔ AreItems (before ++ octets first ∷ octets second ∷ after) items
items_cut_once before after first second items =
    let whole = before ++ octets (first ++ second) ∷ after in
    let cut = before ++ octets first ∷ octets second ∷ after in
    let same = cut_once before after first second in
    (items_by_cuts whole cut items same, items_by_cuts cut whole items (sym same))

pub rest_cut_once : (before after : List Event) (first second : List ℕ) (count : ℕ)
    → IsRest (before ++ octets (first ++ second) ∷ after) count
    ↔ IsRest (before ++ octets first ∷ octets second ∷ after) count
rest_cut_once before after first second count =
    let whole = before ++ octets (first ++ second) ∷ after in
    let cut = before ++ octets first ∷ octets second ∷ after in
    let same = cut_once before after first second in
    (rest_by_cuts whole cut count same, rest_by_cuts cut whole count (sym same))

-- the items of the first events are the first items
pub front_items : (events later : List Event) (items all : List Item) → AreItems events items
    → AreItems (events ++ later) all → (more : List Item) × (all ≡ items ++ more)
front_items events later items all are whole = (
  items_after (connection_at_end None events) later,
  only_items None (events ++ later) all whole ∙ items_after-append None events later
      ∙ ap (λ (xs : List Item). xs ++ items_after (connection_at_end None events) later)
      (sym (only_items None events items are)),
)

-- a connection leaves some number of octets
pub some_rest : (connection : Connection) → (count : ℕ) × LeavesOctets connection count
some_rest None = (0, refl)
some_rest (Some text) =
    let f = has_framing text in
    (left_behind f.end f.rest, (f, refl))
