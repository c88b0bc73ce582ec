-- What a framer holds after octets were taken.
use Rattle.std.proofs.Common.{◌≡◌, ◌⊎◌, ℕ, ◌+◌, ◌-◌, ◌<◌, ◌≤◌, List, [], ◌∷◌, ◌++◌, length, take, drop, min, Option}
use Rattle.std.proofs.Common.{Some, None, ap, sym, refl, ◌∙◌, inl, inr, arith, subst, append_assoc, length-append}
use Rattle.std.proofs.Math.Seq.{take-add}
use Rattle.std.proofs.lemmas.List.{length-take, length-drop, append-nil}
use Rattle.std.proofs.lemmas.Slice.{take-put_mid}
use borrow.Rule.Slice.PartMut.{put_mid}
use Rattle.std.specs.Prelude.{false, is_some}
use Rattle.bgp_wire.specs.Header.{header_fault, length_field}
use Rattle.bgp_wire.specs.Frames.{IsMessage, IsShort}
use Rattle.bgp_wire.specs.States.{IsBuffered, MayFill, IsState}
use Rattle.bgp_wire.specs.declared.kinds.FrameState.{FrameState}
use Rattle.bgp_wire.specs.declared.kinds.FrameState.TheVariants.{Partial, Whole, Fault}
use Rattle.bgp_wire.proofs.Framings.{lt_or_le}
use Rattle.bgp_wire.proofs.Headers.{header_fault-append, length_field-append, length_in_range, faulty_not_short}
use Rattle.bgp_wire.proofs.Headers.{message_not_short}

-- as many octets as the length field counts, and not more, are a whole message
pub whole_message : (held : List ℕ) → IsBuffered held → 19 ≤ length held → header_fault held ≡ None
    → length_field held ≤ length held → IsMessage held
whole_message held buffered header good enough =
    record { header = header; good = good; whole = exact (lt_or_le 19 (length held)) }
  where
    exact : (19 < length held) ⊎ (length held ≤ 19) → length held ≡ length_field held
    exact (inl many) = let upto = buffered.upto many in omega arith
    exact (inr few) = let range = length_in_range held good in omega arith

filled : (held taken : List ℕ) (upto : ℕ) → IsBuffered held → MayFill held upto
    → (length held + length taken ≤ upto) ⊎ (length taken ≡ 0) → IsBuffered (held ++ taken)
filled held taken upto buffered may (inl within) =
    let long = length-append held taken in
    record {
      within = omega (arith, may.within);
      good = λ many. header_fault-append held taken (may.header (omega arith)) ∙ may.good (omega arith);
      upto = λ many.
          let same = length_field-append held taken (may.header (omega arith)) in
          omega (arith, may.message (omega arith));
    }
filled held [] upto buffered may (inr none) = subst IsBuffered (sym (append-nil held)) buffered
filled held (t ∷ ts) upto buffered may (inr none) = absurd (omega arith)

none_or_within : (have upto count : ℕ) → count ≤ upto - have → (have + count ≤ upto) ⊎ (count ≡ 0)
none_or_within have upto count less = by_order (lt_or_le upto have)
  where
    by_order : (upto < have) ⊎ (have ≤ upto) → (have + count ≤ upto) ⊎ (count ≡ 0)
    by_order (inl past) = inr (omega arith)
    by_order (inr room) = inl (omega arith)

-- octets that are missing up to there may be taken
pub filled_upto : (held taken : List ℕ) (upto : ℕ) → IsBuffered held → MayFill held upto
    → length taken ≤ upto - length held → IsBuffered (held ++ taken)
filled_upto held taken upto buffered may less =
    filled held taken upto buffered may (none_or_within (length held) upto (length taken) less)

-- a header was filled up, and then its message: what was taken in both turns
pub record IsPushed (old piece : List ℕ) (head : ℕ) (mid : List ℕ) (count : ℕ) (new : List ℕ) : Type 0 where
  pub head_is : head ≡ min (19 - length old) (length piece)
  pub mid_is : mid ≡ old ++ take head piece
  pub header : 19 ≤ length mid
  pub good : header_fault mid ≡ None
  pub count_is : count ≡ min (length_field mid - length mid) (length (drop head piece))
  pub new_is : new ≡ mid ++ take count (drop head piece)

joined : (old piece mid : List ℕ) (head count : ℕ) → mid ≡ old ++ take head piece
    → mid ++ take count (drop head piece) ≡ old ++ take (head + count) piece
joined old piece mid head count is =
    ap (λ xs. xs ++ take count (drop head piece)) is ∙ append_assoc old (take head piece) (take count (drop head piece))
    ∙ ap (λ xs. old ++ xs) (sym (take-add head count piece))

-- both turns together took the front of the piece
pub pushed-held : {old piece mid new : List ℕ} {head count : ℕ} → IsPushed old piece head mid count new
    → new ≡ old ++ take (head + count) piece
pushed-held {old} {piece} {mid} {new} {head} {count} p = p.new_is ∙ joined old piece mid head count p.mid_is

-- before the header is whole, more may come
pub before_header : (old piece : List ℕ) (head k : ℕ) → head ≡ min (19 - length old) (length piece) → k < head
    → IsShort (old ++ take k piece)
before_header old piece head k is below =
    inl (omega (arith, length-append old (take k piece), length-take k piece))

-- where the header is not whole, the piece is used up
pub header_used_up : (old piece : List ℕ) (head : ℕ) → head ≡ min (19 - length old) (length piece)
    → length (old ++ take head piece) < 19 → head < length piece → ⊥
header_used_up old piece head is few left =
    omega (arith, length-append old (take head piece), length-take head piece)

-- where octets are left over, the message is whole
pub pushed-stops : {old piece mid new : List ℕ} {head count : ℕ} → IsPushed old piece head mid count new
    → head + count < length piece → IsShort new → ⊥
pushed-stops {old} {piece} {mid} {new} {head} {count} p left short =
    let rest = drop head piece in
    let counts = length-drop head piece in
    let grown : length (mid ++ take count rest) ≡ length mid + count =
    omega (arith, length-append mid (take count rest), length-take count rest, p.count_is) in
    let same : length_field (mid ++ take count rest) ≡ length_field mid =
    length_field-append mid (take count rest) p.header in
    by_short (subst IsShort p.new_is short) grown same
  where
    by_short : IsShort (mid ++ take count (drop head piece))
        → length (mid ++ take count (drop head piece)) ≡ length mid + count
        → length_field (mid ++ take count (drop head piece)) ≡ length_field mid → ⊥
    by_short (inl few) grown same = omega (arith, p.header)
    by_short (inr partial) grown same = omega (arith, partial.1, p.count_is, length-drop head piece)

-- in the second turn, before each octet that was taken, the message was not whole
before_end : (mid rest : List ℕ) (count j : ℕ) → 19 ≤ length mid → header_fault mid ≡ None
    → count ≡ min (length_field mid - length mid) (length rest) → j < count → IsShort (mid ++ take j rest)
before_end mid rest count j header good is below =
    let same = length_field-append mid (take j rest) header in
    inr (
      header_fault-append mid (take j rest) header ∙ good,
      omega (arith, length-append mid (take j rest), length-take j rest),
    )

-- before each octet that was taken, more might come
pub pushed-first : {old piece mid new : List ℕ} {head count : ℕ} → IsPushed old piece head mid count new → (k : ℕ)
    → k < head + count → IsShort (old ++ take k piece)
pushed-first {old} {piece} {mid} {new} {head} {count} p k below = by_turn (lt_or_le k head)
  where
    by_turn : (k < head) ⊎ (head ≤ k) → IsShort (old ++ take k piece)
    by_turn (inl first) = before_header old piece head k p.head_is first
    by_turn (inr second) =
        let at : head + (k - head) ≡ k = omega arith in
        subst IsShort (joined old piece mid head (k - head) p.mid_is ∙ ap (λ n. old ++ take n piece) at)
        (before_end mid (drop head piece) count (k - head) p.header p.good p.count_is (omega arith))

-- no octets are of two states
pub one_state : (held : List ℕ) (a b : FrameState) → IsState held a → IsState held b → a ≡ b
one_state held (Partial n) (Partial m) first second = ap Partial (first.1 ∙ sym second.1)
one_state held (Partial n) (Whole kind) first second =
    absurd (message_not_short held [] second.0 (subst IsShort (sym (append-nil held)) first.0))
one_state held (Partial n) (Fault subcode) first second = absurd (faulty_not_short held subcode second first.0)
one_state held (Whole kind) (Partial m) first second =
    absurd (message_not_short held [] first.0 (subst IsShort (sym (append-nil held)) second.0))
one_state held (Whole kind) (Whole other) first second = ap Whole (first.1 ∙ sym second.1)
one_state held (Whole kind) (Fault subcode) first second =
    let both : None ≡ Some subcode = sym first.0.good ∙ second.fault in cc
one_state held (Fault subcode) (Partial m) first second = absurd (faulty_not_short held subcode first second.0)
one_state held (Fault subcode) (Whole kind) first second =
    let both : None ≡ Some subcode = sym second.0.good ∙ first.fault in cc
one_state held (Fault subcode) (Fault other) first second =
    let both : Some subcode ≡ Some other = sym first.fault ∙ second.fault in
    let same : subcode ≡ other = cc in
    ap Fault same

-- a piece was copied behind the first len octets of the buffer
pub appended : (octets piece copied : List ℕ) (len k : ℕ) → copied ≡ piece → len ≤ length octets
    → take (len + length piece) (put_mid len k octets copied) ≡ take len octets ++ piece
appended octets piece copied len k is within =
    take-put_mid len k octets copied (len + length piece) (ap (λ xs. len + length xs) (sym is)) within
    ∙ ap (λ xs. take len octets ++ xs) is

pub none_from_test : (o : Option ℕ) → is_some o ≡ false → o ≡ None
none_from_test None is = refl
none_from_test (Some x) is = cc
