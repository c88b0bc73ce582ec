-- What a feed over a trace gives and where it stops, by what was read into the head.
use Rattle.std.proofs.Common.{◌≡◌, ℕ, ◌+◌, ◌-◌, ◌^◌, ◌<◌, ◌≤◌, true, false, List, [], ◌∷◌, ◌++◌, length, take, drop}
use Rattle.std.proofs.Common.{Option, Some, None, Ok, Err, IfSome, inl, inr, refl, ap, sym, ◌∙◌, append_assoc}
use Rattle.std.proofs.Common.{length-append, length-take, arith}
use Rattle.std.proofs.Math.Seq.{take-append-add, drop-append-add}
use Rattle.std.specs.Io.KnownBytes.{Consumes, Keeps}
use Rattle.feed_io.specs.Events.{Event, octets, Gives, GivesNext}
use Rattle.feed_io.specs.Traces.{head_length, head_event, piece_front, body_front, event_front, trace_events, owed_head}
use Rattle.feed_io.specs.TraceFeeds.{events_left, Moves, Moved, Stops}
use Rattle.feed_io.specs.declared.feeds.FeedEvent.{FeedEvent}
use Rattle.feed_io.specs.declared.feeds.FeedEvent.TheVariants as given
use Rattle.feed_io.specs.declared.limited.TheConstants.{FILE_OCTETS}
use Rattle.feed_io.specs.declared.trace_head.HeadEvent.{HeadEvent}
use Rattle.feed_io.specs.declared.trace_head.HeadEvent.TheVariants.{Octets}
use Rattle.feed_io.proofs.Fronts.{front_whole, events_found, owed_events}

-- ---- what moved into the head

-- the trace that is left is the same
pub trace_same : {text held rest now : List ℕ} {taken count : ℕ} → Moves text taken held rest count now
    → held ++ text ≡ now ++ rest
trace_same {text} {held} {rest} {now} m =
    ap (λ t. held ++ t) m.parts ∙ sym (append_assoc held m.piece rest) ∙ ap (λ h. h ++ rest) (sym m.joined)

-- and so is what of it may still be read
pub seen_same : {text held rest now : List ℕ} {taken count : ℕ} → Moves text taken held rest count now
    → held ++ take (FILE_OCTETS - taken) text ≡ now ++ take (FILE_OCTETS - count) rest
seen_same {text} {held} {rest} {now} {taken} {count} m =
    ap (λ t. held ++ take (FILE_OCTETS - taken) t) m.parts
    ∙ ap (λ k. held ++ take k (m.piece ++ rest)) (omega (arith, m.counted, m.within))
    ∙ ap (λ t. held ++ t) (take-append-add m.piece rest (FILE_OCTETS - count))
    ∙ sym (append_assoc held m.piece (take (FILE_OCTETS - count) rest))
    ∙ ap (λ h. h ++ take (FILE_OCTETS - count) rest) (sym m.joined)

-- ---- where it does not stop

pub none_is_not : {X : Type 0} (x : X) (o : Option X) → o ≡ Some x → o ≡ None → ⊥
none_is_not x o some none = absurd cc

found_goes_on : {text held rest now : List ℕ} {taken count : ℕ} → Moves text taken held rest count now
    → (e f : Event × List ℕ)
    → event_front (now ++ rest) ≡ Some e → event_front (now ++ take (FILE_OCTETS - count) rest) ≡ Some f
    → Stops taken held text → false ≡ true
found_goes_on m e f whole seen (inl off) = absurd (none_is_not e _ (ap event_front (trace_same m) ∙ whole) off.none)
found_goes_on m e f whole seen (inr more) = absurd (none_is_not f _ (ap event_front (seen_same m) ∙ seen) more.none)

-- the head says an event without octets of its own
pub goes_on : (kind : HeadEvent) (e : Event) → ((text : List ℕ) → body_front kind text ≡ Some (e, text))
    → (old new : Option (List ℕ)) (taken count : ℕ) (held now : List ℕ) → Moved old taken held new count now
    → length now ≡ head_length now → head_event now ≡ kind
    → IfSome old (λ text. Stops taken held text → false ≡ true)
goes_on kind e finds None new taken count held now moved whole says = tt
goes_on kind e finds (Some text) None taken count held now moved whole says = absurd moved
goes_on kind e finds (Some text) (Some rest) taken count held now m whole says =
    let seen = take (FILE_OCTETS - count) rest in
    found_goes_on m (e, rest) (e, seen) (front_whole now rest whole ∙ ap (λ s. body_front s rest) says ∙ finds rest)
    (front_whole now seen whole ∙ ap (λ s. body_front s seen) says ∙ finds seen)

-- octets are there: they are found
pub piece_found : (n : ℕ) (text : List ℕ) → 0 < length text
    → piece_front n text ≡ Some (octets (take n text), drop n text)
piece_found n [] some = absurd (omega (arith, some))
piece_found n (b ∷ text) some = refl

-- the head says octets, one of them is there, and it may be read
pub piece_goes_on : (old mid new : Option (List ℕ)) (taken count n : ℕ) (held now piece : List ℕ)
    → Moved old taken held mid count now → length now ≡ head_length now → head_event now ≡ Octets n
    → Consumes mid new piece → 0 < length piece → count < FILE_OCTETS
    → IfSome old (λ text. Stops taken held text → false ≡ true)
piece_goes_on None mid new taken count n held now piece moved whole says consumed some room = tt
piece_goes_on (Some text) None new taken count n held now piece moved whole says consumed some room = absurd moved
piece_goes_on (Some text) (Some mid) None taken count n held now piece m whole says consumed some room = absurd consumed
piece_goes_on (Some text) (Some mid) (Some rest) taken count n held now piece m whole says consumed some room =
    let seen = take (FILE_OCTETS - count) mid in
    let long : 0 < length mid = omega (arith, some, ap length consumed, length-append piece rest) in
    found_goes_on m (octets (take n mid), drop n mid) (octets (take n seen), drop n seen)
    (front_whole now mid whole ∙ ap (λ s. body_front s mid) says ∙ piece_found n mid long)
    (front_whole now seen whole ∙ ap (λ s. body_front s seen) says
    ∙ piece_found n seen (omega (arith, long, room, length-take (FILE_OCTETS - count) mid)))

-- ---- what it gives

-- a call that fails leaves the events as they were
pub gives_none : {E : Type 0} (e : E) (old mid new : Option (List ℕ)) (taken count : ℕ) (held now buffer : List ℕ)
    → Moved old taken held mid count now → Keeps mid new
    → GivesNext (events_left held old) (events_left now new) (Err e) buffer
gives_none e None mid new taken count held now buffer moved keeps = tt
gives_none e (Some text) None new taken count held now buffer moved keeps = absurd moved
gives_none e (Some text) (Some mid) None taken count held now buffer m keeps = absurd keeps
gives_none e (Some text) (Some mid) (Some rest) taken count held now buffer m keeps =
    ap (λ t. trace_events (now ++ t)) keeps ∙ ap trace_events (sym (trace_same m))

-- the event of a whole head is given and taken away
pub gives_one : (E : Type 0) (event : FeedEvent) (kind : HeadEvent) (e : Event) (buffer : List ℕ)
    → ((before after : List Event) → before ≡ e ∷ after → Gives event buffer before after)
    → ((text : List ℕ) → body_front kind text ≡ Some (e, text))
    → (old new : Option (List ℕ)) (taken count : ℕ) (held now : List ℕ) → Moved old taken held new count now
    → length now ≡ head_length now → head_event now ≡ kind
    → GivesNext {E = E} (events_left held old) (events_left [] new) (Ok event) buffer
gives_one E event kind e buffer gives finds None new taken count held now moved whole says = tt
gives_one E event kind e buffer gives finds (Some text) None taken count held now moved whole says = absurd moved
gives_one E event kind e buffer gives finds (Some text) (Some rest) taken count held now m whole says =
    gives _ _
    (ap trace_events (trace_same m)
    ∙ events_found (now ++ rest) rest e
    (front_whole now rest whole ∙ ap (λ s. body_front s rest) says ∙ finds rest))

-- a part of the octets is given and taken away
pub gives_part : (E : Type 0) (old mid new : Option (List ℕ)) (taken count n k : ℕ) (held now buffer : List ℕ)
    → Moved old taken held mid count now → length now ≡ head_length now
    → head_event now ≡ Octets n → Consumes mid new (take k buffer) → 1 ≤ k → k ≤ n → k ≤ length buffer → n < 2 ^ 16
    → GivesNext {E = E} (events_left held old) (events_left (owed_head (n - k)) new) (Ok (given.Octets k)) buffer
gives_part E None mid new taken count n k held now buffer moved whole says consumed some upto fits small = tt
gives_part E (Some text) None new taken count n k held now buffer moved whole says consumed some upto fits small =
    absurd moved
gives_part E (Some text) (Some mid) None taken count n k held now buffer m whole says consumed some upto fits small =
    absurd consumed
gives_part E (Some text) (Some mid) (Some rest) taken count n k held now buffer m whole says consumed some upto fits
    small =
    let piece = take k buffer in
    let long : length piece ≡ k = omega (arith, length-take k buffer, fits) in
    let there : 0 < length mid = omega (arith, some, long, ap length consumed, length-append piece rest) in
    let sum : n ≡ length piece + (n - k) = omega (arith, long, upto) in
    let front = front_whole now mid whole ∙ ap (λ s. body_front s mid) says ∙ piece_found n mid there in
    record {
      more = take (n - k) rest;
      later = trace_events (drop (n - k) rest);
      first =
          ap trace_events (trace_same m) ∙ events_found (now ++ mid) (drop n mid) (octets (take n mid)) front
          ∙ ap (λ t. octets (take n t) ∷ trace_events (drop n t)) consumed
          ∙ ap (λ i. octets (take i (piece ++ rest)) ∷ trace_events (drop i (piece ++ rest))) sum
          ∙ ap (λ t. octets t ∷ trace_events (drop (length piece + (n - k)) (piece ++ rest)))
          (take-append-add piece rest (n - k))
          ∙ ap (λ t. octets (piece ++ take (n - k) rest) ∷ trace_events t) (drop-append-add piece rest (n - k));
      rest = owed_events (n - k) rest (omega (arith, small));
    }
