-- A field of prefixes is one prefix after the other, and the first of them is read by a function.
use Rattle.std.proofs.Common.{◌≡◌, ℕ, ◌<◌, ◌≤◌, Bool, true, false, List, [], ◌∷◌, ◌++◌, length, take, Some, None}
use Rattle.std.proofs.Common.{if◌then◌else◌, nat_lt, refl, ap, sym, subst, ◌∙◌, length-append, arith, ltb-false, le-ltb}
use Rattle.std.proofs.lemmas.List.{take-append-drop, length-take-le}
use Rattle.std.proofs.Math.Seq.{take-append_seam, drop-append_seam}
use Rattle.urpf_base.specs.Address.{Block, block_of}
use Rattle.urpf_base.specs.Series.{Begins, ReadsFront}
use Rattle.urpf_base.proofs.Series.{values_in-none, values_in-some, values_in-spelled, rest_shorter}
use Rattle.bgp_nlri.specs.declared.family.Family.{Family}
use Rattle.bgp_nlri.specs.Nlri.{octets_for, bits_of, addr_from, filled_up, SpellsPrefix, SpellsPrefixes}
use Rattle.bgp_nlri.specs.Front.{cut_prefix, prefix_front, prefixes_in}

cut_begins : (family : Family) (len : ℕ) (text : List ℕ) → len ≤ bits_of family → octets_for len ≤ length text
    → Begins (SpellsPrefix family) (len ∷ text) (cut_prefix family len text).0 (cut_prefix family len text).1
cut_begins family len text within enough = record {
  one = len ∷ take (octets_for len) text;
  spelled =
      record {
        len = len;
        octets = take (octets_for len) text;
        parts = refl;
        within = within;
        least = length-take-le (octets_for len) text enough;
        value = refl;
      };
  parts = ap (λ t. len ∷ t) (sym (take-append-drop (octets_for len) text));
}

pair_begins : (family : Family) (text rest : List ℕ) (x : Block) (found : Block × List ℕ)
    → Begins (SpellsPrefix family) text found.0 found.1 → found ≡ (x, rest) → Begins (SpellsPrefix family) text x rest
pair_begins family text rest x found b same =
    subst (λ (p : Block × List ℕ). Begins (SpellsPrefix family) text p.0 p.1) same b

guarded_begins : (family : Family) (len : ℕ) (text rest : List ℕ) (x : Block) (past short : Bool)
    → nat_lt (bits_of family) len ≡ past → nat_lt (length text) (octets_for len) ≡ short
    → (if past then None else if short then None else Some (cut_prefix family len text)) ≡ Some (x, rest)
    → Begins (SpellsPrefix family) (len ∷ text) x rest
guarded_begins family len text rest x true short past_is short_is found = absurd cc
guarded_begins family len text rest x false true past_is short_is found = absurd cc
guarded_begins family len text rest x false false past_is short_is found =
    pair_begins family (len ∷ text) rest x (cut_prefix family len text)
    (cut_begins family len text (ltb-false (bits_of family) len past_is)
    (ltb-false (length text) (octets_for len) short_is)) cc

front_taken : (family : Family) (text rest : List ℕ) (x : Block) → prefix_front family text ≡ Some (x, rest)
    → Begins (SpellsPrefix family) text x rest
front_taken family [] rest x found = absurd cc
front_taken family (len ∷ text) rest x found =
    guarded_begins family len text rest x (nat_lt (bits_of family) len) (nat_lt (length text) (octets_for len)) refl
    refl found

cut_again : (family : Family) (len : ℕ) (octets rest : List ℕ) → length octets ≡ octets_for len
    → cut_prefix family len (octets ++ rest) ≡ (block_of len (addr_from family (filled_up family octets)), rest)
cut_again family len octets rest least = rw (← least, take-append_seam octets rest, drop-append_seam octets rest) refl

front_again : (family : Family) (one rest : List ℕ) (x : Block) → SpellsPrefix family one x
    → prefix_front family (one ++ rest) ≡ Some (x, rest)
front_again family one rest x spelled =
    let enough : octets_for spelled.len ≤ length (spelled.octets ++ rest) =
    omega (arith, spelled.least, length-append spelled.octets rest) in
    ap (λ t. prefix_front family (t ++ rest)) spelled.parts
    ∙ ap (λ b. if b then None else if nat_lt (length (spelled.octets ++ rest)) (octets_for spelled.len) then None
    else Some (cut_prefix family spelled.len (spelled.octets ++ rest)))
    (le-ltb (bits_of family) spelled.len spelled.within)
    ∙ ap (λ b. if b then None else Some (cut_prefix family spelled.len (spelled.octets ++ rest)))
    (le-ltb (length (spelled.octets ++ rest)) (octets_for spelled.len) enough)
    ∙ ap (λ p. Some p) (cut_again family spelled.len spelled.octets rest spelled.least)
    ∙ ap (λ b. Some (b, rest)) (sym spelled.value)

-- the function finds what is spelled in front, and nothing else
pub front_reads : (family : Family) → ReadsFront (SpellsPrefix family) (prefix_front family)
front_reads family = record {
  taken = front_taken family;
  again = front_again family;
  some = λ one x spelled. let e : length one ≡ length (spelled.len ∷ spelled.octets) = ap length spelled.parts in
      omega arith;
}

-- where no prefix is spelled in front, none is left
pub in_none : (family : Family) (text : List ℕ) → prefix_front family text ≡ None → prefixes_in family text ≡ []
in_none family text none = values_in-none (prefix_front family) text none

-- the prefixes of a field are the first, and then those of the rest
pub in_some : (family : Family) (text rest : List ℕ) (x : Block) → prefix_front family text ≡ Some (x, rest)
    → prefixes_in family text ≡ x ∷ prefixes_in family rest
in_some family text rest x found = values_in-some (prefix_front family) (front_reads family) text rest x found

-- the prefixes that a field spells are those in it
pub in_spelled : (family : Family) (text : List ℕ) (prefixes : List Block) → SpellsPrefixes family text prefixes
    → prefixes_in family text ≡ prefixes
in_spelled family text prefixes spelled =
    values_in-spelled (prefix_front family) (front_reads family) text prefixes spelled

-- a field that spells prefixes spells those in it
pub spelled_in : (family : Family) (text : List ℕ) (prefixes : List Block) → SpellsPrefixes family text prefixes
    → SpellsPrefixes family text (prefixes_in family text)
spelled_in family text prefixes spelled =
    subst (λ (ps : List Block). SpellsPrefixes family text ps) (sym (in_spelled family text prefixes spelled)) spelled

-- taking a prefix off leaves less
pub shorter : (family : Family) (text rest : List ℕ) (x : Block) → prefix_front family text ≡ Some (x, rest)
    → length rest < length text
shorter family text rest x found = rest_shorter (front_reads family) text rest x found
