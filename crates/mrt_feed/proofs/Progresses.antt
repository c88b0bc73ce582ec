-- What a record gives at a place, and where that leaves the feed.
use Rattle.std.proofs.Common.{◌≡◌, ℕ, ◌-◌, ◌<◌, ◌≤◌, Bool, true, false, cond, nat_lt, if◌then◌else◌, List, [], ◌∷◌}
use Rattle.std.proofs.Common.{◌++◌, length, take, drop, get_or, Option, Some, None, refl, ap, sym, ◌∙◌, arith, le-ltb}
use Rattle.std.proofs.Common.{append_assoc, append-nil, length-append, length-drop, subst}
use Rattle.std.proofs.lemmas.List.{get_or_append_left}
use Rattle.std.specs.List.{filter}
use Rattle.urpf_base.specs.declared.address.Addr.{Addr}
use Rattle.as_path.specs.declared.widths.Width.{Width}
use Rattle.as_path.specs.declared.widths.Width.TheVariants.{Two, Four}
use Rattle.feed_io.specs.Events.{Event, up, octets, down, with_more}
use Rattle.mrt_feed.specs.MrtEvents.{same_width, is_told, tells, opens, before_message, lost, told_events}
use Rattle.mrt_feed.specs.MrtEvents.{events_from}
use Rattle.mrt_feed.specs.Openings.{session_opening}
use Rattle.mrt_feed.specs.Places.{past, place_events, is_whole, ends_whole, Goes, IsAtRecord, IsBetween, IsOff, due_events}
use Rattle.mrt_feed.specs.declared.progress.Due.{Due}
use Rattle.mrt_feed.specs.declared.progress.Due.TheVariants.{Down, Octets}
use Rattle.mrt_feed.specs.Records.{Record, other, message, change, head_length, head_says, message_front, records_in}
use Rattle.mrt_feed.specs.declared.progress.Progress.{Progress}
use Rattle.mrt_feed.specs.declared.record_head.Sender.{Sender}
use Rattle.mrt_feed.specs.declared.record_head.RecordHead.TheVariants.{Malformed, Other, Message, Change}
use Rattle.mrt_feed.proofs.Records.{malformed_record, change_record, other_record, message_record}

-- ---- what is behind so many octets

pub past-zero : {X : Type 0} (short : X) (more : List ℕ → X) (t : List ℕ) → past short 0 more t ≡ more t
past-zero short more t = ap (λ c. if c then short else more t) (le-ltb (length t) 0 (omega arith))

past_inner : {X : Type 0} (short : X) (n : ℕ) (more : List ℕ → X) (t : List ℕ)
    → past short n (past short 0 more) t ≡ past short n more t
past_inner short n more t = ap (λ x. if nat_lt (length t) n then short else x) (past-zero short more (drop n t))

choice_map : {X Y : Type 0} (f : X → Y) (c : Bool) (x y : X) → f (if c then x else y) ≡ (if c then f x else f y)
choice_map f true x y = refl
choice_map f false x y = refl

past_map : {X Y : Type 0} (f : X → Y) (short : X) (n : ℕ) (more : List ℕ → X) (t : List ℕ)
    → f (past short n more t) ≡ past (f short) n (λ u. f (more u)) t
past_map f short n more t = choice_map f (nat_lt (length t) n) short (more (drop n t))

-- ---- the events at a place

pub with_more-some : (piece : List ℕ) (later : List Event) → 0 < length piece
    → with_more piece later ≡ octets piece ∷ later
with_more-some [] later some = absurd (omega (arith, some))
with_more-some (b ∷ piece) later some = refl

-- nothing is owed or passed over: what is in memory, and then the records
pub memory_events : (peer : Addr) (p : Progress) (t : List ℕ) → p.owed ≡ 0 → p.skip ≡ 0
    → place_events peer p t ≡ with_more (p.unsent ++ []) (events_from peer p.link (p.head ++ t))
memory_events peer p t owed skip =
    let F = λ (u : List ℕ). events_from peer p.link (p.head ++ u) in
    ap (λ n. with_more (p.unsent ++ take n t) (past [] n (past [] p.skip F) t)) owed
    ∙ ap (λ n. with_more (p.unsent ++ []) (past [] 0 (past [] n F) t)) skip
    ∙ ap (with_more (p.unsent ++ [])) (past-zero [] (past [] 0 F) t ∙ past-zero [] F t)

-- octets of a message are owed behind those in memory
owed_events : (peer : Addr) (p : Progress) (t : List ℕ) → p.skip ≡ 0
    → place_events peer p t
    ≡ with_more (p.unsent ++ take p.owed t) (past [] p.owed (λ u. events_from peer p.link (p.head ++ u)) t)
owed_events peer p t skip =
    let F = λ (u : List ℕ). events_from peer p.link (p.head ++ u) in
    let front = p.unsent ++ take p.owed t in
    ap (λ n. with_more front (past [] p.owed (past [] n F) t)) skip ∙ ap (with_more front) (past_inner [] p.owed F t)

pub between_events : (peer : Addr) (p : Progress) (t : List ℕ) → IsBetween p
    → place_events peer p t ≡ past [] p.skip (λ u. events_from peer p.link (p.head ++ u)) t
between_events peer p t at =
    let F = λ (u : List ℕ). events_from peer p.link (p.head ++ u) in
    ap (λ u. with_more (u ++ take p.owed t) (past [] p.owed (past [] p.skip F) t)) at.unsent
    ∙ ap (λ n. with_more (take n t) (past [] n (past [] p.skip F) t)) at.owed
    ∙ past-zero [] (past [] p.skip F) t

pub start_between : (p : Progress) → IsAtRecord p → IsBetween p
start_between p at = record { unsent = at.unsent; owed = at.owed }

pub start_events : (peer : Addr) (p : Progress) (t : List ℕ) → IsAtRecord p
    → place_events peer p t ≡ events_from peer p.link (p.head ++ t)
start_events peer p t at =
    let F = λ (u : List ℕ). events_from peer p.link (p.head ++ u) in
    between_events peer p t (start_between p at) ∙ ap (λ n. past [] n F t) at.skip ∙ past-zero [] F t

pub between_whole : (p : Progress) (t : List ℕ) → p.owed ≡ 0
    → ends_whole p t ≡ past false p.skip (λ u. is_whole (p.head ++ u)) t
between_whole p t owed =
    let F = λ (u : List ℕ). is_whole (p.head ++ u) in
    ap (λ n. past false n (past false p.skip F) t) owed ∙ past-zero false (past false p.skip F) t

owed_whole : (p : Progress) (t : List ℕ) → p.skip ≡ 0
    → ends_whole p t ≡ past false p.owed (λ u. is_whole (p.head ++ u)) t
owed_whole p t skip =
    let F = λ (u : List ℕ). is_whole (p.head ++ u) in
    ap (λ n. past false p.owed (past false n F) t) skip ∙ past_inner false p.owed F t

pub start_whole : (p : Progress) (t : List ℕ) → p.owed ≡ 0 → p.skip ≡ 0 → ends_whole p t ≡ is_whole (p.head ++ t)
start_whole p t owed skip =
    let F = λ (u : List ℕ). is_whole (p.head ++ u) in
    between_whole p t owed ∙ ap (λ n. past false n F t) skip ∙ past-zero false F t

-- ---- what a record gives

-- a record that is passed over, by what the others behind it give
from_other : (peer : Addr) (link : Option Width) (head t : List ℕ) (n : ℕ) → length head ≡ head_length head
    → head_says head ≡ Other n → events_from peer link (head ++ t) ≡ past [] n (events_from peer link) t
from_other peer link head t n whole is =
    let f = λ (rs : List Record). told_events link (filter (tells peer) rs) in
    ap f (other_record head t n whole is).0 ∙ past_map f [] n (λ u. other ∷ records_in u) t

from_untold : (peer : Addr) (link : Option Width) (head t : List ℕ) (s : Sender) (n : ℕ) → length head ≡ head_length head
    → head_says head ≡ Message s n → tells peer (message s (message_front head ++ take n t)) ≡ false
    → events_from peer link (head ++ t) ≡ past [] n (events_from peer link) t
from_untold peer link head t s n whole is untold =
    let f = λ (rs : List Record). told_events link (filter (tells peer) rs) in
    let m = message s (message_front head ++ take n t) in
    let later = past [] n records_in t in
    ap f (message_record head t s n whole is).0
    ∙ ap (λ b. told_events link (cond b (m ∷ filter (tells peer) later) (filter (tells peer) later))) untold
    ∙ past_map f [] n records_in t

from_told : (peer : Addr) (link : Option Width) (head t : List ℕ) (s : Sender) (n : ℕ) → length head ≡ head_length head
    → head_says head ≡ Message s n → tells peer (message s (message_front head ++ take n t)) ≡ true
    → events_from peer link (head ++ t)
    ≡ before_message link s ++ (octets (message_front head ++ take n t) ∷ past [] n (events_from peer (Some s.width)) t)
from_told peer link head t s n whole is told =
    let f = λ (rs : List Record). told_events link (filter (tells peer) rs) in
    let g = λ (rs : List Record). told_events (Some s.width) (filter (tells peer) rs) in
    let text = message_front head ++ take n t in
    let m = message s text in
    let later = past [] n records_in t in
    ap f (message_record head t s n whole is).0
    ∙ ap (λ b. told_events link (cond b (m ∷ filter (tells peer) later) (filter (tells peer) later))) told
    ∙ append_assoc (before_message link s) (octets text ∷ []) (g later)
    ∙ ap (λ es. before_message link s ++ (octets text ∷ es)) (past_map g [] n records_in t)

from_change : (peer : Addr) (link : Option Width) (head t : List ℕ) (from : Addr) (state : ℕ)
    → length head ≡ head_length head → head_says head ≡ Change from state
    → events_from peer link (head ++ t)
    ≡ (if tells peer (change from state) then lost link ++ events_from peer None t else events_from peer link t)
from_change peer link head t from state whole is =
    let rest = filter (tells peer) (records_in t) in
    ap (λ rs. told_events link (filter (tells peer) rs)) (change_record head t from state whole is).0
    ∙ choice_map (told_events link) (tells peer (change from state)) (change from state ∷ rest) rest

-- the type of a message stands in its header
kind_same : (head body : List ℕ) → 19 ≤ length head
    → get_or (message_front head ++ body) 18 0 ≡ get_or (message_front head) 18 0
kind_same head body long =
    get_or_append_left (message_front head) body 0 18 (omega (arith, long, length-drop (length head - 19) head))

-- ---- where a record leaves the feed

pub goes_other : (peer : Addr) (p : Progress) (n : ℕ) → IsAtRecord p → length p.head ≡ head_length p.head
    → head_says p.head ≡ Other n → Goes peer p [] (record p { head = []; skip = n }) []
goes_other peer p n at whole is = record {
  events = λ t. start_events peer p t at ∙ from_other peer p.link p.head t n whole is
      ∙ sym (between_events peer (record p { head = []; skip = n }) t (record { unsent = at.unsent; owed = at.owed }));
  whole = λ t. start_whole p t at.owed at.skip ∙ (other_record p.head t n whole is).1
      ∙ sym (between_whole (record p { head = []; skip = n }) t at.owed);
}

pub goes_untold : (peer : Addr) (p : Progress) (s : Sender) (n : ℕ) → IsAtRecord p → length p.head ≡ head_length p.head
    → 19 ≤ length p.head → head_says p.head ≡ Message s n → is_told peer s (get_or (message_front p.head) 18 0) ≡ false
    → Goes peer p [] (record p { head = []; skip = n }) []
goes_untold peer p s n at whole long is untold = record {
  events = λ t. start_events peer p t at
      ∙ from_untold peer p.link p.head t s n whole is (ap (is_told peer s) (kind_same p.head (take n t) long) ∙ untold)
      ∙ sym (between_events peer (record p { head = []; skip = n }) t (record { unsent = at.unsent; owed = at.owed }));
  whole = λ t. start_whole p t at.owed at.skip ∙ (message_record p.head t s n whole is).1
      ∙ sym (between_whole (record p { head = []; skip = n }) t at.owed);
}

same_width-refl : (w : Width) → same_width w w ≡ true
same_width-refl Two = refl
same_width-refl Four = refl

same_width-same : (a b : Width) → same_width a b ≡ true → a ≡ b
same_width-same Two Two same = refl
same_width-same Two Four same = absurd cc
same_width-same Four Two same = absurd cc
same_width-same Four Four same = refl

-- with an OPEN of the message's width nothing comes before it
before_same : (made : Width) (s : Sender) → same_width made s.width ≡ true → before_message (Some made) s ≡ []
before_same made s same = ap (λ b. if b then [] else down ∷ opens s) same

before_other : (made : Width) (s : Sender) → same_width made s.width ≡ false
    → before_message (Some made) s ≡ down ∷ opens s
before_other made s other_is = ap (λ b. if b then [] else down ∷ opens s) other_is

-- the transport is down: up, the made opening, and the record once more
pub goes_up : (peer : Addr) (p : Progress) (s : Sender) (n : ℕ) → IsAtRecord p → length p.head ≡ head_length p.head
    → 19 ≤ length p.head → head_says p.head ≡ Message s n → is_told peer s (get_or (message_front p.head) 18 0) ≡ true
    → p.link ≡ None
    → Goes peer p [] (record p { unsent = session_opening s; link = Some s.width }) (up ∷ [])
goes_up peer p s n at whole long is told down_is = record {
  events = λ t.
      let told_here = ap (is_told peer s) (kind_same p.head (take n t) long) ∙ told in
      let q : Progress = record p { unsent = session_opening s; link = Some s.width } in
      let later = octets (message_front p.head ++ take n t) ∷ past [] n (events_from peer (Some s.width)) t in
      let again : events_from peer (Some s.width) (p.head ++ t) ≡ later =
      from_told peer (Some s.width) p.head t s n whole is told_here
      ∙ ap (λ es. es ++ later) (before_same s.width s (same_width-refl s.width)) in
      start_events peer p t at ∙ ap (λ link. events_from peer link (p.head ++ t)) down_is
      ∙ from_told peer None p.head t s n whole is told_here
      ∙ ap (λ es. up ∷ octets (session_opening s) ∷ es) (sym again)
      ∙ ap (λ o. up ∷ with_more o (events_from peer (Some s.width) (p.head ++ t))) (sym (append-nil (session_opening s)))
      ∙ ap (λ es. up ∷ es) (sym (memory_events peer q t at.owed at.skip));
  whole = λ t. start_whole p t at.owed at.skip
      ∙ sym (start_whole (record p { unsent = session_opening s; link = Some s.width }) t at.owed at.skip);
}

-- an OPEN of another width was made: down, and the record once more
pub goes_down : (peer : Addr) (p : Progress) (made : Width) (s : Sender) (n : ℕ) → IsAtRecord p
    → length p.head ≡ head_length p.head → 19 ≤ length p.head → head_says p.head ≡ Message s n
    → is_told peer s (get_or (message_front p.head) 18 0) ≡ true → p.link ≡ Some made
    → same_width made s.width ≡ false → Goes peer p [] (record p { link = None }) (down ∷ [])
goes_down peer p made s n at whole long is told up_is differs = record {
  events = λ t.
      let told_here = ap (is_told peer s) (kind_same p.head (take n t) long) ∙ told in
      let q : Progress = record p { link = None } in
      let later = octets (message_front p.head ++ take n t) ∷ past [] n (events_from peer (Some s.width)) t in
      start_events peer p t at ∙ ap (λ link. events_from peer link (p.head ++ t)) up_is
      ∙ from_told peer (Some made) p.head t s n whole is told_here
      ∙ ap (λ es. es ++ later) (before_other made s differs)
      ∙ ap (λ es. down ∷ es) (sym (from_told peer None p.head t s n whole is told_here))
      ∙ ap (λ es. down ∷ es) (sym (start_events peer q t (record {
        unsent = at.unsent;
        owed = at.owed;
        skip = at.skip;
      })));
  whole = λ t. start_whole p t at.owed at.skip ∙ sym (start_whole (record p { link = None }) t at.owed at.skip);
}

-- an OPEN of this width was made: the message
pub goes_octets : (peer : Addr) (p : Progress) (made : Width) (s : Sender) (n : ℕ) → IsAtRecord p
    → length p.head ≡ head_length p.head → 19 ≤ length p.head → head_says p.head ≡ Message s n
    → is_told peer s (get_or (message_front p.head) 18 0) ≡ true → p.link ≡ Some made
    → same_width made s.width ≡ true
    → Goes peer p [] (record p { head = []; unsent = message_front p.head; owed = n }) []
goes_octets peer p made s n at whole long is told up_is same = record {
  events = λ t.
      let told_here = ap (is_told peer s) (kind_same p.head (take n t) long) ∙ told in
      let q : Progress = record p { head = []; unsent = message_front p.head; owed = n } in
      let text = message_front p.head ++ take n t in
      let later = octets text ∷ past [] n (events_from peer (Some s.width)) t in
      let link_is : Some s.width ≡ p.link = ap (λ w. Some w) (sym (same_width-same made s.width same)) ∙ sym up_is in
      let some : 0 < length text =
      omega (arith, long, length-append (message_front p.head) (take n t), length-drop (length p.head - 19) p.head) in
      start_events peer p t at ∙ ap (λ link. events_from peer link (p.head ++ t)) up_is
      ∙ from_told peer (Some made) p.head t s n whole is told_here
      ∙ ap (λ es. es ++ later) (before_same made s same)
      ∙ ap (λ link. octets text ∷ past [] n (events_from peer link) t) link_is
      ∙ sym (with_more-some text (past [] n (events_from peer p.link) t) some)
      ∙ sym (owed_events peer q t at.skip);
  whole = λ t. start_whole p t at.owed at.skip ∙ (message_record p.head t s n whole is).1
      ∙ sym (owed_whole (record p { head = []; unsent = message_front p.head; owed = n }) t at.skip);
}

-- one of the two, by the widths
goes_by : (peer : Addr) (p q : Progress) (made : Width) (s : Sender) (n : ℕ) (due : Due) (same : Bool) → IsAtRecord p
    → length p.head ≡ head_length p.head → 19 ≤ length p.head → head_says p.head ≡ Message s n
    → is_told peer s (get_or (message_front p.head) 18 0) ≡ true → p.link ≡ Some made
    → same_width made s.width ≡ same
    → (same ≡ true → (due ≡ Octets) × (q ≡ record p { head = []; unsent = message_front p.head; owed = n }))
    → (same ≡ false → (due ≡ Down) × (q ≡ record p { link = None })) → Goes peer p [] q (due_events (Some due))
goes_by peer p q made s n due true at whole long is told up_is same alike apart =
    let e = alike refl in
    rw (e.0, e.1) (goes_octets peer p made s n at whole long is told up_is same)
goes_by peer p q made s n due false at whole long is told up_is same alike apart =
    let e = apart refl in
    rw (e.0, e.1) (goes_down peer p made s n at whole long is told up_is same)

pub goes_told : (peer : Addr) (p q : Progress) (made : Width) (s : Sender) (n : ℕ) (due : Due) → IsAtRecord p
    → length p.head ≡ head_length p.head → 19 ≤ length p.head → head_says p.head ≡ Message s n
    → is_told peer s (get_or (message_front p.head) 18 0) ≡ true → p.link ≡ Some made
    → (same_width made s.width ≡ true
    → (due ≡ Octets) × (q ≡ record p { head = []; unsent = message_front p.head; owed = n }))
    → (same_width made s.width ≡ false → (due ≡ Down) × (q ≡ record p { link = None }))
    → Goes peer p [] q (due_events (Some due))
goes_told peer p q made s n due at whole long is told up_is alike apart =
    goes_by peer p q made s n due (same_width made s.width) at whole long is told up_is refl alike apart

-- octets are due only where there are some
told_by : (p q : Progress) (n : ℕ) (due : Due) (same : Bool) → 19 ≤ length p.head
    → (same ≡ true → (due ≡ Octets) × (q ≡ record p { head = []; unsent = message_front p.head; owed = n }))
    → (same ≡ false → (due ≡ Down) × (q ≡ record p { link = None })) → Some due ≡ Some Octets → 0 < length q.unsent
told_by p q n due true long alike apart is =
    let front : q.unsent ≡ message_front p.head = ap (λ (r : Progress). r.unsent) (alike refl).1 in
    omega (arith, long, ap length front, length-drop (length p.head - 19) p.head)
told_by p q n due false long alike apart is =
    let down_is : due ≡ Down = (apart refl).0 in
    absurd cc

pub told_octets : (p q : Progress) (made : Width) (s : Sender) (n : ℕ) (due : Due) → 19 ≤ length p.head
    → (same_width made s.width ≡ true
    → (due ≡ Octets) × (q ≡ record p { head = []; unsent = message_front p.head; owed = n }))
    → (same_width made s.width ≡ false → (due ≡ Down) × (q ≡ record p { link = None }))
    → Some due ≡ Some Octets → 0 < length q.unsent
told_octets p q made s n due long alike apart is = told_by p q n due (same_width made s.width) long alike apart is

-- a state change that tells nothing
pub goes_unchanged : (peer : Addr) (p : Progress) (from : Addr) (state : ℕ) → IsAtRecord p
    → length p.head ≡ head_length p.head → head_says p.head ≡ Change from state
    → tells peer (change from state) ≡ false → Goes peer p [] (record p { head = [] }) []
goes_unchanged peer p from state at whole is untold = record {
  events = λ t. start_events peer p t at ∙ from_change peer p.link p.head t from state whole is
      ∙ ap (λ b. if b then lost p.link ++ events_from peer None t else events_from peer p.link t) untold
      ∙ sym (start_events peer (record p { head = [] }) t
      (record { unsent = at.unsent; owed = at.owed; skip = at.skip }));
  whole = λ t. start_whole p t at.owed at.skip ∙ (change_record p.head t from state whole is).1
      ∙ sym (start_whole (record p { head = [] }) t at.owed at.skip);
}

-- one that tells something leaves the transport down
pub goes_lost : (peer : Addr) (p : Progress) (from : Addr) (state : ℕ) → IsAtRecord p
    → length p.head ≡ head_length p.head → head_says p.head ≡ Change from state
    → tells peer (change from state) ≡ true → Goes peer p [] (record p { head = []; link = None }) (lost p.link)
goes_lost peer p from state at whole is told = record {
  events = λ t. start_events peer p t at ∙ from_change peer p.link p.head t from state whole is
      ∙ ap (λ b. if b then lost p.link ++ events_from peer None t else events_from peer p.link t) told
      ∙ ap (λ es. lost p.link ++ es)
      (sym (start_events peer (record p { head = []; link = None }) t
      (record { unsent = at.unsent; owed = at.owed; skip = at.skip })));
  whole = λ t. start_whole p t at.owed at.skip ∙ (change_record p.head t from state whole is).1
      ∙ sym (start_whole (record p { head = []; link = None }) t at.owed at.skip);
}

-- the transport is down already
pub goes_still : (peer : Addr) (p : Progress) (from : Addr) (state : ℕ) → IsAtRecord p
    → length p.head ≡ head_length p.head → head_says p.head ≡ Change from state
    → tells peer (change from state) ≡ true → p.link ≡ None → Goes peer p [] (record p { head = [] }) []
goes_still peer p from state at whole is told down_is = record {
  events = λ t. start_events peer p t at ∙ from_change peer p.link p.head t from state whole is
      ∙ ap (λ b. if b then lost p.link ++ events_from peer None t else events_from peer p.link t) told
      ∙ ap (λ link. lost link ++ events_from peer None t) down_is
      ∙ ap (λ link. events_from peer link t) (sym down_is)
      ∙ sym (start_events peer (record p { head = [] }) t
      (record { unsent = at.unsent; owed = at.owed; skip = at.skip }));
  whole = λ t. start_whole p t at.owed at.skip ∙ (change_record p.head t from state whole is).1
      ∙ sym (start_whole (record p { head = [] }) t at.owed at.skip);
}

-- it goes down
pub goes_closed : (peer : Addr) (p : Progress) (made : Width) (from : Addr) (state : ℕ) → IsAtRecord p
    → length p.head ≡ head_length p.head → head_says p.head ≡ Change from state
    → tells peer (change from state) ≡ true → p.link ≡ Some made
    → Goes peer p [] (record p { head = []; link = None }) (down ∷ [])
goes_closed peer p made from state at whole is told up_is =
    subst (λ link. Goes peer p [] (record p { head = []; link = None }) (lost link)) up_is
    (goes_lost peer p from state at whole is told)

-- a head that is off the format
pub malformed_off : (peer : Addr) (p : Progress) → IsAtRecord p → length p.head ≡ head_length p.head
    → head_says p.head ≡ Malformed → (t : List ℕ) → IsOff peer p t
malformed_off peer p at whole is t = record {
  none = start_events peer p t at
      ∙ ap (λ rs. told_events p.link (filter (tells peer) rs)) (malformed_record p.head t whole is).0;
  off = start_whole p t at.owed at.skip ∙ (malformed_record p.head t whole is).1;
}

pub goes_nowhere : (peer : Addr) (p : Progress) → Goes peer p [] p []
goes_nowhere peer p = record { events = λ t. refl; whole = λ t. refl }
