-- What one line does to the object that a text goes on with.
use Rattle.std.proofs.Common.{◌≡◌, ℕ, ◌≤◌, List, [], ◌∷◌, ◌++◌, length, Some, refl, sym, ap, subst, ◌∙◌, arith}
use Rattle.std.proofs.Common.{◌<◌, append_assoc, append-nil}
use Rattle.std.specs.List.{join_with_byte}
use Rattle.roa_irr.specs.declared.values.Value.{Value}
use Rattle.roa_irr.specs.Lines.{lines_of}
use Rattle.roa_irr.specs.Objects.{Continued, continued, with_part}
use Rattle.roa_irr.specs.Steps.{Does, IsValue, ahead, before_empty, behind_empty}
use Rattle.roa_irr.proofs.Parts.{join-more}

does : (line : List ℕ) (lines : List (List ℕ)) (step : Continued → Continued) → Does line step
    → (continued (before_empty (line ∷ lines)) ≡ step (continued (before_empty lines)))
    × (behind_empty (line ∷ lines) ≡ behind_empty lines)
does [] lines step is = absurd (let some = is.0 in cc)
does (octet ∷ octets) lines step is = (is.1 (continued (before_empty lines)), refl)

-- a line that has an octet is of the object
pub ahead-does : (text line more : List ℕ) (step : Continued → Continued) → lines_of text ≡ line ∷ lines_of more
    → Does line step
    → (ahead text ≡ step (ahead more)) × (behind_empty (lines_of text) ≡ behind_empty (lines_of more))
ahead-does text line more step cut is =
    let one = does line (lines_of more) step is in
    (ap (λ ls. continued (before_empty ls)) cut ∙ one.0, ap behind_empty cut ∙ one.1)

-- an empty line ends it
pub ahead-empty : (text line more : List ℕ) → lines_of text ≡ line ∷ lines_of more → line ≡ []
    → (ahead text ≡ record { parts = []; attributes = [] }) × (behind_empty (lines_of text) ≡ Some (lines_of more))
ahead-empty text line more cut is =
    let same = cut ∙ ap (λ l. l ∷ lines_of more) is in
    (ap (λ ls. continued (before_empty ls)) same, ap behind_empty same)

-- what was read of a value
pub record IsValueSoFar (part text rest : List ℕ) (known : Value) : Type 0 where
  pub done : List (List ℕ)
  pub parts : (ahead text).parts ≡ done ++ (ahead rest).parts
  pub attributes : (ahead rest).attributes ≡ (ahead text).attributes
  pub behind : behind_empty (lines_of rest) ≡ behind_empty (lines_of text)
  pub value : IsValue (join_with_byte 32 (part ∷ done)) known
  pub shorter : length rest ≤ length text

-- before a line is read
pub value-started : (part text : List ℕ) (known : Value) → IsValue part known → IsValueSoFar part text text known
value-started part text known is = record {
  done = [];
  parts = refl;
  attributes = refl;
  behind = refl;
  value = is;
  shorter = omega arith;
}

-- a line that is passed over
pub value-passed : (part text rest line more : List ℕ) (known : Value) → IsValueSoFar part text rest known
    → lines_of rest ≡ line ∷ lines_of more → length more < length rest → Does line (λ all. all)
    → IsValueSoFar part text more known
value-passed part text rest line more known so_far cut less is =
    let one = ahead-does rest line more (λ all. all) cut is in
    let short = so_far.shorter in
    record {
      done = so_far.done;
      parts = so_far.parts ∙ ap (λ a. so_far.done ++ a.parts) one.0;
      attributes = ap (λ a. a.attributes) (sym one.0) ∙ so_far.attributes;
      behind = sym one.1 ∙ so_far.behind;
      value = so_far.value;
      shorter = omega arith;
    }

-- a line that continues the value
pub value-continued : (first text rest line more part : List ℕ) (known new : Value) → IsValueSoFar first text rest known
    → lines_of rest ≡ line ∷ lines_of more → length more < length rest → Does line (with_part part)
    → ((joined : List ℕ) → IsValue joined known → IsValue (joined ++ (32 ∷ part)) new)
    → IsValueSoFar first text more new
value-continued first text rest line more part known new so_far cut less is go =
    let one = ahead-does rest line more (with_part part) cut is in
    let short = so_far.shorter in
    record {
      done = so_far.done ++ part ∷ [];
      parts = so_far.parts ∙ ap (λ a. so_far.done ++ a.parts) one.0
          ∙ sym (append_assoc so_far.done (part ∷ []) (ahead more).parts);
      attributes = ap (λ a. a.attributes) (sym one.0) ∙ so_far.attributes;
      behind = sym one.1 ∙ so_far.behind;
      value = subst (λ t. IsValue t new) (sym (join-more first so_far.done part))
          (go (join_with_byte 32 (first ∷ so_far.done)) so_far.value);
      shorter = omega arith;
    }

-- where nothing continues it, the value was read
pub value-read : (part text rest : List ℕ) (known : Value) → IsValueSoFar part text rest known → (ahead rest).parts ≡ []
    → IsValue (join_with_byte 32 (part ∷ (ahead text).parts)) known
value-read part text rest known so_far none =
    let all : so_far.done ≡ (ahead text).parts =
    sym (so_far.parts ∙ ap (λ ps. so_far.done ++ ps) none ∙ append-nil so_far.done) in
    subst (λ ps. IsValue (join_with_byte 32 (part ∷ ps)) known) all so_far.value
