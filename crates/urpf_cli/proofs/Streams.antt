-- How far the reading of a stream has come, and what each step makes of it.
use Rattle.std.proofs.Common.{◌≡◌, ℕ, suc, ◌+◌, ◌<◌, ◌≤◌, List, [], ◌∷◌, ◌++◌, length, take, drop, Option, Result, Ok}
use Rattle.std.proofs.Common.{Err, false, refl, inl, inr, ap, sym, ◌∙◌, append_assoc, length-append, length-drop, arith}
use Rattle.std.specs.List.{concat, AllByRecursion}
use Rattle.std.specs.Prelude.{is_ok, is_err, if◌then◌else◌}
use Rattle.std.proofs.lemmas.List.{take-append-drop, take_all}
use Rattle.std.proofs.lemmas.List.Folds.{concat-append}
use Rattle.urpf_base.specs.RouteUpdates.{RouteUpdate}
use Rattle.bgp_wire.specs.Header.{header_fault, type_field}
use Rattle.bgp_wire.specs.Frames.{IsMessage, IsShort, IsFaulty}
use Rattle.bgp_wire.specs.States.{FitsKind, kind_of}
use Rattle.bgp_wire.specs.declared.kinds.MsgKind.{MsgKind}
use Rattle.bgp_wire.specs.declared.kinds.MsgKind.TheVariants.{Update}
use Rattle.bgp_wire.proofs.Headers.{header_fault-append}
use Rattle.bgp_wire.proofs.Framings.{has_framing, lt_or_le}
use Rattle.urpf_cli.specs.Session.{Says, SaysBy, SayAll, IsFaultAt, IsRead, StopsAt, Leaves}

-- the messages in front were read, and said this
pub record Progress (stream rest : List ℕ) (said : List (Option RouteUpdate)) : Type 0 where
  pub done : List (List ℕ)
  pub parts : stream ≡ concat done ++ rest
  pub each : AllByRecursion IsMessage done
  pub say : SayAll done said

-- before the first message
pub progress_begins : (stream : List ℕ) → Progress stream stream []
progress_begins stream = record { done = []; parts = refl; each = tt; say = tt }

-- an empty framer holds what it took
pub held_now : (old taken new : List ℕ) → old ≡ [] → new ≡ old ++ taken → new ≡ taken
held_now old taken new empty held = held ∙ ap (λ t. t ++ taken) empty

all-append : {X : Type 0} (P : X → Type 0) (xs ys : List X) → AllByRecursion P xs → AllByRecursion P ys
    → AllByRecursion P (xs ++ ys)
all-append P [] ys first second = second
all-append P (x ∷ xs) ys first second = (first.0, all-append P xs ys first.1 second)

say-push : (ms : List (List ℕ)) (m : List ℕ) (ss : List (Option RouteUpdate)) (s : Option RouteUpdate) → SayAll ms ss
    → Says m s → SayAll (ms ++ m ∷ []) (ss ++ s ∷ [])
say-push [] m [] s before now = (now, tt)
say-push [] m (x ∷ ss) s before now = absurd before
say-push (y ∷ ms) m [] s before now = absurd before
say-push (y ∷ ms) m (x ∷ ss) s before now = (before.0, say-push ms m ss s before.1 now)

-- as many messages as things said
pub say-length : (ms : List (List ℕ)) (ss : List (Option RouteUpdate)) → SayAll ms ss → length ms ≡ length ss
say-length [] [] say = refl
say-length [] (s ∷ ss) say = absurd say
say-length (m ∷ ms) [] say = absurd say
say-length (m ∷ ms) (s ∷ ss) say = ap (λ n. suc n) (say-length ms ss say.1)

-- where there are messages there are octets
long_of : (ms : List (List ℕ)) → AllByRecursion IsMessage ms → 0 < length ms → 0 < length (concat ms)
long_of [] each some = absurd (omega (arith, some))
long_of (m ∷ ms) each some = omega (arith, each.0.header, length-append m (concat ms))

-- a stream that says something is not empty
pub read_some : (stream : List ℕ) (said : List (Option RouteUpdate)) (rest : List ℕ) → IsRead stream said rest
    → 0 < length said → 0 < length stream
read_some stream said rest read some =
    let messages = read.messages in
    let long =
    long_of messages read.framed.each (omega (arith, some, say-length messages said read.say)) in
    omega (arith, long, ap length read.framed.parts, length-append (concat messages) rest)

-- a message stands between those before it and what comes after it
concat-between : (before after : List (List ℕ)) (m rest : List ℕ)
    → concat (before ++ m ∷ after) ++ rest ≡ concat before ++ (m ++ (concat after ++ rest))
concat-between before after m rest =
    ap (λ t. t ++ rest) (concat-append before (m ∷ after)) ∙ append_assoc (concat before) (m ++ concat after) rest
    ∙ ap (λ t. concat before ++ t) (append_assoc m (concat after) rest)

-- what a message says is told by its kind and its body
says_so : (message body : List ℕ) (kind : MsgKind) (s : Option RouteUpdate) → kind ≡ kind_of (type_field message)
    → body ≡ drop 19 message → SaysBy kind body s → Says message s
says_so message body kind s is_kind is_body says = rw (is_kind, is_body) at says

-- the octets that a framer took are a whole message of this kind and body
pub record IsTaken (rest : List ℕ) (count : ℕ) (kind : MsgKind) (body : List ℕ) : Type 0 where
  pub whole : IsMessage (take count rest)
  pub of_kind : kind ≡ kind_of (type_field (take count rest))
  pub has_body : body ≡ drop 19 (take count rest)

-- one more message is read
pub progress_more : (stream rest : List ℕ) (count : ℕ) (said : List (Option RouteUpdate)) (kind : MsgKind)
    (body : List ℕ) (s : Option RouteUpdate) → Progress stream rest said → IsTaken rest count kind body
    → SaysBy kind body s → Progress stream (drop count rest) (said ++ s ∷ [])
progress_more stream rest count said kind body s far taken says = record {
  done = far.done ++ take count rest ∷ [];
  parts = far.parts ∙ ap (λ t. concat far.done ++ t) (sym (take-append-drop count rest))
      ∙ sym (concat-between far.done [] (take count rest) (drop count rest));
  each = all-append IsMessage far.done (take count rest ∷ []) far.each (taken.whole, tt);
  say = say-push far.done (take count rest) said s far.say
      (says_so (take count rest) body kind s taken.of_kind taken.has_body says);
}

-- a part of a message is all that was left
all_taken : (rest : List ℕ) (count : ℕ) → count ≤ length rest → (count < length rest → IsShort (take count rest) → ⊥)
    → IsShort (take count rest) → take count rest ≡ rest
all_taken rest count within stops short =
    elim (lt_or_le count (length rest)) [ inl less ↦ absurd (stops less short) | inr all ↦ take_all count rest all ]

-- what is left is a message that is not whole
pub read_to_end : (stream rest : List ℕ) (count held : ℕ) (said : List (Option RouteUpdate)) → Progress stream rest said
    → count ≤ length rest → (count < length rest → IsShort (take count rest) → ⊥) → IsShort (take count rest)
    → held ≡ length (take count rest) → Leaves stream said held
read_to_end stream rest count held said far within stops short is = record {
  octets = take count rest;
  read = record {
    messages = far.done;
    framed =
        record {
          parts = far.parts ∙ ap (λ t. concat far.done ++ t) (sym (all_taken rest count within stops short));
          each = far.each;
          ends = short;
        };
    say = far.say;
  };
  left = is;
}

-- octets after a faulty header change nothing
fault_in_front : (rest : List ℕ) (count sub : ℕ) → IsFaulty (take count rest) sub → IsFaulty rest sub
fault_in_front rest count sub fault =
    let whole : take count rest ++ drop count rest ≡ rest = take-append-drop count rest in
    record {
      header = omega (arith, fault.header, ap length whole, length-append (take count rest) (drop count rest));
      fault = ap header_fault (sym whole) ∙ header_fault-append (take count rest) (drop count rest) fault.header
          ∙ fault.fault;
    }

place_is : (done : List (List ℕ)) (said : List (Option RouteUpdate)) (place : ℕ) → SayAll done said
    → place ≡ length said + 1 → place ≡ length done + 1
place_is done said place say is = omega (arith, is, say-length done said say)

-- what is left begins with a faulty header
pub stopped_by_fault : (stream rest : List ℕ) (count sub place : ℕ) (said : List (Option RouteUpdate))
    → Progress stream rest said → place ≡ length said + 1 → IsFaulty (take count rest) sub → IsFaultAt stream sub place
stopped_by_fault stream rest count sub place said far is fault = record {
  messages = far.done;
  said = said;
  rest = rest;
  framed = record { parts = far.parts; each = far.each; ends = fault_in_front rest count sub fault };
  say = far.say;
  counted = place_is far.done said place far.say is;
}

-- the next message stops the reading
pub stopped_by : (stream rest : List ℕ) (count place : ℕ) (said : List (Option RouteUpdate)) (kind : MsgKind)
    (body : List ℕ) (Reason : MsgKind → List ℕ → Type 0) → Progress stream rest said → place ≡ length said + 1
    → IsTaken rest count kind body → Reason kind body → StopsAt stream place Reason
stopped_by stream rest count place said kind body Reason far is taken reason =
    let more = has_framing (drop count rest) in
    record {
      before = far.done;
      message = take count rest;
      after = more.messages;
      said = said;
      rest = more.rest;
      end = more.end;
      framed = record {
        parts = far.parts
            ∙ ap (λ t. concat far.done ++ t)
            (sym (take-append-drop count rest) ∙ ap (λ t. take count rest ++ t) more.framed.parts)
            ∙ sym (concat-between far.done more.messages (take count rest) more.rest);
        each = all-append IsMessage far.done (take count rest ∷ more.messages) far.each (taken.whole, more.framed.each);
        ends = more.framed.ends;
      };
      say = far.say;
      reason = rw (taken.of_kind, taken.has_body) at reason;
      counted = place_is far.done said place far.say is;
    }

-- the body of a message that is long enough for an UPDATE has both its lengths
pub has_lengths : (held message body : List ℕ) (kind : MsgKind) → FitsKind kind (length held) → message ≡ held
    → body ≡ drop 19 message → kind ≡ Update → 4 ≤ length body
has_lengths held message body kind long same is update =
    let least : 23 ≤ length held = rw update at long in
    omega (arith, least, ap length same, ap length is, length-drop 19 message)

-- what a framer that was empty holds is what was cut off for it
pub taken_now : (rest held message body : List ℕ) (count : ℕ) (kind : MsgKind) → held ≡ take count rest
    → message ≡ take count rest → IsMessage held → kind ≡ kind_of (type_field held) → body ≡ drop 19 message
    → IsTaken rest count kind body
taken_now rest held message body count kind now cut whole of_kind has_body = record {
  whole = rw now at whole;
  of_kind = rw now at of_kind;
  has_body = rw cut at has_body;
}

-- a push that did not fail
pub pushed_items : {X E : Type 0} (old : List X) (x : X) (new : List X) (r : Result (Unit {0}) E)
    → new ≡ (if is_ok r then old ++ x ∷ [] else old) → is_err r ≡ false → new ≡ old ++ x ∷ []
pushed_items old x new (Ok u) is ok = is
pushed_items old x new (Err e) is ok = cc
