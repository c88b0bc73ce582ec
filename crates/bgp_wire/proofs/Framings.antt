-- A stream is framed in one way and no other.
use Rattle.std.proofs.Common.{◌≡◌, ◌⊎◌, ℕ, zero, suc, ◌<◌, ◌≤◌, List, [], ◌∷◌, ◌++◌, length, take, drop, Option, Some}
use Rattle.std.proofs.Common.{None, ap, sym, ◌∙◌, refl, inl, inr, arith, subst, append_assoc}
use Rattle.std.proofs.lemmas.List.{take_at, drop_at, take-append-drop, length-take-le, length-drop}
use Rattle.std.proofs.lemmas.Bool.{cases_order}
use Rattle.std.specs.List.{concat, AllByRecursion}
use Rattle.bgp_wire.specs.Header.{header_fault, length_field}
use Rattle.bgp_wire.specs.Frames.{IsMessage, End, Clean, Fault, EndsAs, Framing}
use Rattle.bgp_wire.proofs.Headers.{header_fault-append, length_field-append, length_in_range, message_in_front}
use Rattle.bgp_wire.proofs.Headers.{faulty_not_short, message_not_short}

from_order : (a b : ℕ) → (a ≡ b) ⊎ ((a < b) ⊎ (b < a)) → (a < b) ⊎ (b ≤ a)
from_order a b (inl same) = inr (omega arith)
from_order a b (inr (inl less)) = inl less
from_order a b (inr (inr more)) = inr (omega arith)

-- one number is below another or not
pub lt_or_le : (a b : ℕ) → (a < b) ⊎ (b ≤ a)
lt_or_le a b = from_order a b (cases_order a b)

no_messages : (stream : List ℕ) (end : End) → EndsAs stream end → Framing stream
no_messages stream end ends = record {
  messages = [];
  rest = stream;
  end = end;
  framed = record { parts = refl; each = tt; ends = ends };
}

one_more : (message more : List ℕ) → IsMessage message → Framing more → Framing (message ++ more)
one_more message more is later = record {
  messages = message ∷ later.messages;
  rest = later.rest;
  end = later.end;
  framed = record {
    parts = ap (λ xs. message ++ xs) later.framed.parts ∙ sym (append_assoc message (concat later.messages) later.rest);
    each = (is, later.framed.each);
    ends = later.framed.ends;
  };
}

-- a header with no fault, and all octets that its length field counts
front_message : (stream : List ℕ) → 19 ≤ length stream → header_fault stream ≡ None
    → length_field stream ≤ length stream → IsMessage (take (length_field stream) stream)
front_message stream header good enough =
    let count : ℕ = length_field stream in
    let front = take count stream in
    let long : length front ≡ count = length-take-le count stream enough in
    let range = length_in_range stream good in
    let whole : 19 ≤ length front = omega arith in
    let joined : front ++ drop count stream ≡ stream = take-append-drop count stream in
    record {
      header = whole;
      good = sym (header_fault-append front (drop count stream) whole) ∙ ap header_fault joined ∙ good;
      whole = long ∙ sym (sym (length_field-append front (drop count stream) whole) ∙ ap length_field joined);
    }

by_length : (stream : List ℕ) (k : ℕ) → ((more : List ℕ) → length more ≤ k → Framing more) → length stream ≤ suc k
    → 19 ≤ length stream → header_fault stream ≡ None → (length stream < length_field stream)
    ⊎ (length_field stream ≤ length stream) → Framing stream
by_length stream k later within header good (inl few) = no_messages stream Clean (inr (good, few))
by_length stream k later within header good (inr enough) =
    let count : ℕ = length_field stream in
    let range = length_in_range stream good in
    subst Framing (take-append-drop count stream)
    (one_more (take count stream) (drop count stream) (front_message stream header good enough)
    (later (drop count stream) (omega (arith, length-drop count stream))))

by_fault : (stream : List ℕ) (k : ℕ) → ((more : List ℕ) → length more ≤ k → Framing more) → length stream ≤ suc k
    → 19 ≤ length stream → (fault : Option ℕ) → header_fault stream ≡ fault → Framing stream
by_fault stream k later within header (Some subcode) is =
    no_messages stream (Fault subcode) (record { header = header; fault = is })
by_fault stream k later within header None is = by_length stream k later within header is (lt_or_le _ _)

by_header : (stream : List ℕ) (k : ℕ) → ((more : List ℕ) → length more ≤ k → Framing more) → length stream ≤ suc k
    → (length stream < 19) ⊎ (19 ≤ length stream) → Framing stream
by_header stream k later within (inl few) = no_messages stream Clean (inl few)
by_header stream k later within (inr header) = by_fault stream k later within header (header_fault stream) refl

framed_within : (k : ℕ) (stream : List ℕ) → length stream ≤ k → Framing stream
framed_within zero stream within = no_messages stream Clean (inl (omega arith))
framed_within (suc k) stream within = by_header stream k (framed_within k) within (lt_or_le _ _)

-- each stream is framed
pub has_framing : (stream : List ℕ) → Framing stream
has_framing stream = framed_within (length stream) stream (omega arith)

one_end : (rest : List ℕ) (a b : End) → EndsAs rest a → EndsAs rest b → a ≡ b
one_end rest Clean Clean first second = refl
one_end rest Clean (Fault subcode) first second = absurd (faulty_not_short rest subcode second first)
one_end rest (Fault subcode) Clean first second = absurd (faulty_not_short rest subcode first second)
one_end rest (Fault subcode) (Fault other) first second =
    let both : Some subcode ≡ Some other = sym first.fault ∙ second.fault in
    let same : subcode ≡ other = cc in
    ap Fault same

-- what begins with a message does not end there
not_end : (message more : List ℕ) (end : End) → IsMessage message → EndsAs (message ++ more) end → ⊥
not_end message more Clean is ends = message_not_short message more is ends
not_end message more (Fault subcode) is ends =
    let both : None ≡ Some subcode = sym (message_in_front message more is).1 ∙ ends.fault in
    cc

-- two messages in front of the same octets are one
same_front : (message other more rest : List ℕ) → IsMessage message → IsMessage other → message ++ more ≡ other ++ rest
    → (message ≡ other) × (more ≡ rest)
same_front message other more rest is is_other joined =
    let long : length message ≡ length other = sym (message_in_front message more is).2 ∙ ap length_field joined
    ∙ (message_in_front other rest is_other).2 in (
      sym (take_at message more (length other) long) ∙ ap (take (length other)) joined
          ∙ take_at other rest (length other) refl,
      sym (drop_at message more (length other) long) ∙ ap (drop (length other)) joined
          ∙ drop_at other rest (length other) refl,
    )

abbrev AreSame : List (List ℕ) → List (List ℕ) → List ℕ → List ℕ → End → End → Type 0
AreSame messages others rest other end last = (messages ≡ others) × (rest ≡ other) × (end ≡ last)

-- two ways to frame one text are the same
same_frames : (messages others : List (List ℕ)) (rest other : List ℕ) (end last : End)
    → AllByRecursion IsMessage messages → AllByRecursion IsMessage others → EndsAs rest end → EndsAs other last
    → concat messages ++ rest ≡ concat others ++ other → AreSame messages others rest other end last
same_frames [] [] rest other end last each each_other ends lasts joined =
    (refl, joined, one_end other end last (subst (λ (t : List ℕ). EndsAs t end) joined ends) lasts)
same_frames [] (n ∷ ns) rest other end last each each_other ends lasts joined =
    absurd (not_end n (concat ns ++ other) end each_other.0
    (subst (λ (t : List ℕ). EndsAs t end) (joined ∙ append_assoc n (concat ns) other) ends))
same_frames (m ∷ ms) [] rest other end last each each_other ends lasts joined =
    absurd (not_end m (concat ms ++ rest) last each.0
    (subst (λ (t : List ℕ). EndsAs t last) (sym joined ∙ append_assoc m (concat ms) rest) lasts))
same_frames (m ∷ ms) (n ∷ ns) rest other end last each each_other ends lasts joined =
    let fronts =
    same_front m n (concat ms ++ rest) (concat ns ++ other) each.0 each_other.0
    (sym (append_assoc m (concat ms) rest) ∙ joined ∙ append_assoc n (concat ns) other) in
    let later = same_frames ms ns rest other end last each.1 each_other.1 ends lasts fronts.1 in
    let messages : m ∷ ms ≡ n ∷ ns = ap (λ x. x ∷ ms) fronts.0 ∙ ap (λ xs. n ∷ xs) later.0 in
    (messages, later.1, later.2)

-- no stream is framed in two ways
pub one_framing : (stream : List ℕ) (a b : Framing stream) → (a.messages ≡ b.messages) × (a.rest ≡ b.rest)
    × (a.end ≡ b.end)
one_framing stream a b =
    same_frames a.messages b.messages a.rest b.rest a.end b.end a.framed.each b.framed.each a.framed.ends b.framed.ends
    (sym a.framed.parts ∙ b.framed.parts)
