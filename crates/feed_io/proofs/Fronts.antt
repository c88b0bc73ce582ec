-- Which event a trace begins with, and what is left behind it.
use Rattle.std.proofs.Common.{◌≡◌, ℕ, zero, suc, ◌^◌, ◌<◌, ◌≤◌, Bool, true, false, ◌==◌, nat_lt, if◌then◌else◌, List}
use Rattle.std.proofs.Common.{[], ◌∷◌, ◌++◌, length, take, drop, Option, Some, None, refl, ap, sym, ◌∙◌, append-nil}
use Rattle.std.proofs.Common.{length-append, length-drop, unwrap_or, arith, ne_eqb, ltb-false, le-ltb}
use Rattle.std.proofs.Math.Seq.{drop-append_seam}
use Rattle.byteorder.specs.Endian.{big_number, big_bytes}
use Rattle.byteorder.specs.Numbers.{big_from-append, big_from-bytes, length-bytes_high_first}
use Rattle.urpf_base.proofs.Series.{Shortens, values_in-found, values_in-none}
use Rattle.feed_io.specs.Events.{Event, up, octets, down, elapsed, with_more}
use Rattle.feed_io.specs.Traces.{code_length, head_length, octets_event, coded_event, head_event, piece_front}
use Rattle.feed_io.specs.Traces.{body_front, event_front, trace_events, owed_head}
use Rattle.feed_io.specs.declared.trace_head.HeadEvent.{HeadEvent}
use Rattle.feed_io.specs.declared.trace_head.HeadEvent.TheVariants.{Malformed, Up, Octets, Down, Elapsed}
use Rattle.feed_io.specs.declared.trace_head.TheConstants.{UP, OCTETS, DOWN, ELAPSED}

-- ---- what is left behind an event is shorter

-- what is behind a value that was found is one text
pub behind : {X : Type 0} (x y : X) (a b : List ℕ) → ◌≡◌ {A = Option (X × List ℕ)} (Some (x, a)) (Some (y, b)) → a ≡ b
behind {X = X} x y a b same =
    let other : X × List ℕ = (y, b) in
    ap (λ (found : Option (X × List ℕ)). (unwrap_or found other).1) same

piece_shortens : (count : ℕ) (text rest : List ℕ) (e : Event) → piece_front count text ≡ Some (e, rest)
    → length rest ≤ length text
piece_shortens count [] rest e found = absurd cc
piece_shortens count (x ∷ text) rest e found =
    omega (arith, ap length (behind _ e (drop count (x ∷ text)) rest found), length-drop count (x ∷ text))

body_shortens : (kind : HeadEvent) (text rest : List ℕ) (e : Event) → body_front kind text ≡ Some (e, rest)
    → length rest ≤ length text
body_shortens Malformed text rest e found = absurd cc
body_shortens Up text rest e found = omega (arith, ap length (behind up e text rest found))
body_shortens (Octets count) text rest e found = piece_shortens count text rest e found
body_shortens Down text rest e found = omega (arith, ap length (behind down e text rest found))
body_shortens (Elapsed seconds) text rest e found =
    omega (arith, ap length (behind (elapsed seconds) e text rest found))

code_length-some : (code : ℕ) (are_octets is_elapsed : Bool)
    → 0 < (if are_octets then 3 else if is_elapsed then 5 else 1)
code_length-some code true is_elapsed = omega arith
code_length-some code false true = omega arith
code_length-some code false false = omega arith

head_length-some : (text : List ℕ) → 0 < head_length text
head_length-some [] = omega arith
head_length-some (code ∷ text) = code_length-some code (code == OCTETS) (code == ELAPSED)

guarded_shortens : (text rest : List ℕ) (e : Event) (short : Bool) → nat_lt (length text) (head_length text) ≡ short
    → (if short then None else body_front (head_event text) (drop (head_length text) text)) ≡ Some (e, rest)
    → length rest < length text
guarded_shortens text rest e true short_is found = absurd cc
guarded_shortens text rest e false short_is found =
    omega (
      arith,
      body_shortens (head_event text) _ rest e found,
      ltb-false (length text) (head_length text) short_is,
      length-drop (head_length text) text,
      head_length-some text,
    )

pub front_shortens : Shortens event_front
front_shortens text rest e found = guarded_shortens text rest e (nat_lt (length text) (head_length text)) refl found

-- the events of a trace are the first and those behind it
pub events_found : (text rest : List ℕ) (e : Event) → event_front text ≡ Some (e, rest)
    → trace_events text ≡ e ∷ trace_events rest
events_found text rest e found = values_in-found event_front front_shortens text rest e found

pub events_none : (text : List ℕ) → event_front text ≡ None → trace_events text ≡ []
events_none text none = values_in-none event_front text none

-- ---- a whole head, whatever stands behind it

coded_event_same : (is_up are_octets is_down is_elapsed : Bool) (n m s t : ℕ) → (are_octets ≡ true → n ≡ m)
    → (are_octets ≡ false → is_elapsed ≡ true → s ≡ t)
    → (if is_up then Up else if are_octets then octets_event n else if is_down then Down else if is_elapsed
    then Elapsed s else Malformed)
    ≡ (if is_up then Up else if are_octets then octets_event m else if is_down then Down else if is_elapsed
    then Elapsed t else Malformed)
coded_event_same true are_octets is_down is_elapsed n m s t lengths seconds = refl
coded_event_same false true is_down is_elapsed n m s t lengths seconds = ap octets_event (lengths refl)
coded_event_same false false true is_elapsed n m s t lengths seconds = refl
coded_event_same false false false true n m s t lengths seconds = ap Elapsed (seconds refl refl)
coded_event_same false false false false n m s t lengths seconds = refl

coded_event-append : (code : ℕ) (field text : List ℕ) (are_octets is_elapsed : Bool) → (code == OCTETS) ≡ are_octets
    → (code == ELAPSED) ≡ is_elapsed
    → suc (length field) ≡ (if are_octets then 3 else if is_elapsed then 5 else 1)
    → coded_event code (field ++ text) ≡ coded_event code field
coded_event-append code field text true is_elapsed octets_is elapsed_is whole =
    coded_event_same (code == UP) (code == OCTETS) (code == DOWN) (code == ELAPSED) _ _ _ _
    (λ is. big_from-append 2 field text (omega (arith, whole))) (λ never is. absurd cc)
coded_event-append code field text false true octets_is elapsed_is whole =
    coded_event_same (code == UP) (code == OCTETS) (code == DOWN) (code == ELAPSED) _ _ _ _ (λ never. absurd cc)
    (λ not_octets is. big_from-append 4 field text (omega (arith, whole)))
coded_event-append code field text false false octets_is elapsed_is whole =
    coded_event_same (code == UP) (code == OCTETS) (code == DOWN) (code == ELAPSED) _ _ _ _ (λ never. absurd cc)
    (λ not_octets never. absurd cc)

-- a whole head says what the first event is, and its octets come behind the head
pub front_whole : (head text : List ℕ) → length head ≡ head_length head
    → event_front (head ++ text) ≡ body_front (head_event head) text
front_whole [] text whole = absurd (omega (arith, whole))
front_whole (code ∷ field) text whole =
    let n = code_length code in
    ap (λ b. if b then None else body_front (coded_event code (field ++ text)) (drop n (code ∷ field ++ text)))
    (le-ltb (length (code ∷ field ++ text)) n (omega (arith, whole, length-append field text)))
    ∙ ap (λ s. body_front s (drop n (code ∷ field ++ text)))
    (coded_event-append code field text (code == OCTETS) (code == ELAPSED) refl refl (omega (arith, whole)))
    ∙ ap (λ k. body_front (coded_event code field) (drop k (code ∷ field ++ text))) (sym whole)
    ∙ ap (body_front (coded_event code field)) (drop-append_seam (code ∷ field) text)

-- ---- an event of octets of which a part was given

not_zero : (count : ℕ) → (suc count == 0) ≡ false
not_zero count = ne_eqb (suc count) 0 (λ is. omega (arith, is))

owed_head-more : (count : ℕ) → owed_head (suc count) ≡ OCTETS ∷ big_bytes 2 (suc count)
owed_head-more count = ap (λ b. if b then [] else OCTETS ∷ big_bytes 2 (suc count)) (not_zero count)

owed_more : (count : ℕ) (text : List ℕ) → suc count < 2 ^ 16
    → event_front (owed_head (suc count) ++ text) ≡ piece_front (suc count) text
owed_more count text small =
    ap (λ head. event_front (head ++ text)) (owed_head-more count)
    ∙ front_whole (OCTETS ∷ big_bytes 2 (suc count)) text (omega (arith, length-bytes_high_first 2 (suc count)))
    ∙ ap (λ n. body_front (octets_event n) text) number
    ∙ ap (λ b. body_front (if b then Malformed else Octets (suc count)) text) (not_zero count)
  where
    number : big_number 2 (big_bytes 2 (suc count)) ≡ suc count
    number = ap (big_number 2) (sym (append-nil (big_bytes 2 (suc count)))) ∙ big_from-bytes 2 (suc count) []
        ∙ omega arith

pub owed_events : (count : ℕ) (text : List ℕ) → count < 2 ^ 16
    → trace_events (owed_head count ++ text) ≡ with_more (take count text) (trace_events (drop count text))
owed_events zero text small = refl
owed_events (suc count) [] small = events_none (owed_head (suc count) ++ []) (owed_more count [] small)
owed_events (suc count) (x ∷ text) small =
    events_found (owed_head (suc count) ++ x ∷ text) (drop count text) (octets (x ∷ take count text))
    (owed_more count (x ∷ text) small)
