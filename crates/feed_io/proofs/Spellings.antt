-- A trace that is spelled has the events that it spells.
use Rattle.std.proofs.Common.{◌≡◌, ℕ, ◌<◌, List, [], ◌∷◌, ◌++◌, length, take, drop, Some, None, if◌then◌else◌, refl, ap}
use Rattle.std.proofs.Common.{sym, ◌∙◌, append_assoc, append-nil, length-append, arith, ne_eqb}
use Rattle.std.proofs.lemmas.List.{drop_all, take_all}
use Rattle.std.proofs.Math.Seq.{take-append_seam, drop-append_seam}
use Rattle.urpf_base.specs.Series.{Begins, SpellsAll}
use Rattle.feed_io.specs.Events.{Event, up, octets, down, elapsed}
use Rattle.feed_io.specs.Spelling.{SpellsPiece, SpellsEvent}
use Rattle.feed_io.specs.Traces.{octets_event, body_front, event_front, trace_events}
use Rattle.feed_io.specs.declared.trace_head.HeadEvent.TheVariants.{Malformed, Octets}
use Rattle.feed_io.specs.declared.trace_head.TheConstants.{UP, OCTETS, DOWN, ELAPSED}
use Rattle.feed_io.proofs.Fronts.{front_whole, events_found}
use Rattle.feed_io.proofs.TraceFeeds.{none_is_not, piece_found}

-- the head of octets says how many there are
piece_announced : (text piece rest : List ℕ) (count : ℕ) → SpellsPiece text count piece → 0 < count → 0 < length piece
    → event_front (text ++ rest) ≡ Some (octets (take count (piece ++ rest)), drop count (piece ++ rest))
piece_announced text piece rest count s wanted some =
    ap (λ t. event_front (t ++ rest)) s.parts
    ∙ ap (λ t. event_front (OCTETS ∷ t)) (append_assoc s.field piece rest)
    ∙ front_whole (OCTETS ∷ s.field) (piece ++ rest) (omega (arith, s.two))
    ∙ ap (λ n. body_front (octets_event n) (piece ++ rest)) (sym s.count_is)
    ∙ ap (λ b. body_front (if b then Malformed else Octets count) (piece ++ rest))
    (ne_eqb count 0 (λ none. omega (arith, wanted, none)))
    ∙ piece_found count (piece ++ rest) (omega (arith, some, length-append piece rest))

-- an event that is spelled is found, and the rest behind it
pub spelled_found : (one rest : List ℕ) (e : Event) → SpellsEvent one e → event_front (one ++ rest) ≡ Some (e, rest)
spelled_found one rest up spelled = ap (λ t. event_front (t ++ rest)) spelled ∙ front_whole (UP ∷ []) rest refl
spelled_found one rest (octets piece) spelled =
    piece_announced one piece rest (length piece) spelled.0 spelled.1 spelled.1
    ∙ ap (λ t. Some (octets t, drop (length piece) (piece ++ rest))) (take-append_seam piece rest)
    ∙ ap (λ t. Some (octets piece, t)) (drop-append_seam piece rest)
spelled_found one rest down spelled = ap (λ t. event_front (t ++ rest)) spelled ∙ front_whole (DOWN ∷ []) rest refl
spelled_found one rest (elapsed seconds) spelled =
    ap (λ t. event_front (t ++ rest)) spelled.parts
    ∙ front_whole (ELAPSED ∷ spelled.field) rest (omega (arith, spelled.four))
    ∙ ap (λ n. Some (elapsed n, rest)) (sym spelled.seconds_are)

-- the events are those that are spelled, and then those of the rest
pub events_spelled : (text rest : List ℕ) (events : List Event) → SpellsAll SpellsEvent text events
    → trace_events (text ++ rest) ≡ events ++ trace_events rest
events_spelled text rest [] spelled = ap (λ t. trace_events (t ++ rest)) spelled
events_spelled text rest (e ∷ events) spelled =
    let b = spelled.1 in
    ap (λ t. trace_events (t ++ rest)) b.parts
    ∙ ap trace_events (append_assoc b.one spelled.0 rest)
    ∙ events_found (b.one ++ (spelled.0 ++ rest)) (spelled.0 ++ rest) e
    (spelled_found b.one (spelled.0 ++ rest) e b.spelled)
    ∙ ap (λ es. e ∷ es) (events_spelled spelled.0 rest events spelled.2)

pub events_whole : (text : List ℕ) (events : List Event) → SpellsAll SpellsEvent text events
    → trace_events text ≡ events
events_whole text events spelled =
    ap trace_events (sym (append-nil text)) ∙ events_spelled text [] events spelled ∙ append-nil events

-- of an octets event that is cut off the octets that are there are the last event
pub events_broken : (text piece : List ℕ) (count : ℕ) → SpellsPiece text count piece → 0 < length piece
    → length piece < count → trace_events text ≡ octets piece ∷ []
events_broken text piece count s some short =
    let all : take count (piece ++ []) ≡ piece = ap (take count) (append-nil piece)
    ∙ take_all count piece (omega (arith, short)) in
    let none : drop count (piece ++ []) ≡ [] = ap (drop count) (append-nil piece)
    ∙ drop_all count piece (omega (arith, short)) in
    ap trace_events (sym (append-nil text))
    ∙ events_found (text ++ []) (drop count (piece ++ [])) (octets (take count (piece ++ [])))
    (piece_announced text piece [] count s (omega (arith, some, short)) some)
    ∙ ap (λ t. octets t ∷ trace_events (drop count (piece ++ []))) all
    ∙ ap (λ t. octets piece ∷ trace_events t) none

pub spelled_is_on : (text rest : List ℕ) (e : Event) → Begins SpellsEvent text e rest → event_front text ≡ None → ⊥
spelled_is_on text rest e b none =
    none_is_not (e, rest) (event_front text) (ap event_front b.parts ∙ spelled_found b.one rest e b.spelled) none
