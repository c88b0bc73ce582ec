-- A path is one segment after the other, and the first of them is read by a function.
use Rattle.std.proofs.Common.{◌≡◌, ℕ, zero, suc, ◌*◌, ◌<◌, ◌≤◌, ◌==◌, Bool, true, false, List, [], ◌∷◌, ◌++◌, length}
use Rattle.std.proofs.Common.{take, drop, Option, Some, None, if◌then◌else◌, nat_lt, refl, ap, sym, subst, ◌∙◌}
use Rattle.std.proofs.Common.{length-append, arith, ltb-false, le-ltb, eqb-true, ne_eqb}
use Rattle.std.proofs.lemmas.List.{take-append-drop, length-take-le}
use Rattle.std.proofs.Math.Seq.{take-append_seam, drop-append_seam}
use Rattle.urpf_base.specs.Series.{Begins, SpellsAll, ReadsFront}
use Rattle.urpf_base.proofs.Series.{values_in-spelled, rest_shorter}
use Rattle.as_path.specs.declared.widths.Width.{Width}
use Rattle.as_path.specs.declared.segments.SegmentType.{SegmentType}
use Rattle.as_path.specs.declared.segments.SegmentType.TheVariants.{Set, Sequence}
use Rattle.as_path.specs.Path.{Segment, as_set, as_sequence, type_of, numbers_of, octets_per, SpellsNumber}
use Rattle.as_path.specs.Path.{SpellsSegment, IsPath}
use Rattle.as_path.specs.Front.{numbers_in, type_from, segment_from, cut_segment, segment_after, segment_front}
use Rattle.as_path.specs.Front.{segments_in}
use Rattle.as_path.proofs.NumberLaws.{are_numbers, numbers-length, numbers_in-spelled}

type_of-segment_from : (octet : ℕ) (type : SegmentType) (numbers : List ℕ) (is_set is_sequence : Bool)
    → (octet == 1) ≡ is_set → (octet == 2) ≡ is_sequence
    → (if is_set then Some Set else if is_sequence then Some Sequence else None) ≡ Some type
    → type_of (segment_from type numbers) ≡ octet
type_of-segment_from octet Set numbers true is_sequence one two found = sym (eqb-true octet 1 one)
type_of-segment_from octet Sequence numbers true is_sequence one two found = absurd cc
type_of-segment_from octet Sequence numbers false true one two found = sym (eqb-true octet 2 two)
type_of-segment_from octet Set numbers false true one two found = absurd cc
type_of-segment_from octet type numbers false false one two found = absurd cc

numbers_of-segment_from : (type : SegmentType) (numbers : List ℕ) → numbers_of (segment_from type numbers) ≡ numbers
numbers_of-segment_from Set numbers = refl
numbers_of-segment_from Sequence numbers = refl

type_from-type_of : (segment : Segment) → (type : SegmentType) × (type_from (type_of segment) ≡ Some type)
    × (segment_from type (numbers_of segment) ≡ segment)
type_from-type_of (as_set numbers) = (Set, refl, refl)
type_from-type_of (as_sequence numbers) = (Sequence, refl, refl)

cut_begins : (width : Width) (octet count : ℕ) (type : SegmentType) (text : List ℕ) → type_from octet ≡ Some type
    → 0 < count → count * octets_per width ≤ length text
    → Begins (SpellsSegment width) (octet ∷ count ∷ text) (cut_segment width type (count * octets_per width) text).0
    (cut_segment width type (count * octets_per width) text).1
cut_begins width octet count type text known some enough =
    let size = count * octets_per width in
    let cut = take size text in
    let are = are_numbers width count cut (length-take-le size text enough) in
    let same = numbers_of-segment_from type (numbers_in width cut) in
    let counted : length (numbers_of (segment_from type (numbers_in width cut))) ≡ count = ap length same ∙ are.counted
    in
    let typed = type_of-segment_from octet type (numbers_in width cut) (octet == 1) (octet == 2) refl refl known in
    record {
      one = octet ∷ count ∷ cut;
      spelled = record {
        octets = cut;
        parts = ap (λ t. t ∷ count ∷ cut) (sym typed)
            ∙ ap (λ n. type_of (segment_from type (numbers_in width cut)) ∷ n ∷ cut) (sym counted);
        some = omega (arith, counted, some);
        numbers = subst (λ (ns : List ℕ). SpellsAll (SpellsNumber width) cut ns) (sym same) are.spelled;
      };
      parts = ap (λ t. octet ∷ count ∷ t) (sym (take-append-drop size text));
    }

guarded_begins : (width : Width) (octet count : ℕ) (type : SegmentType) (text rest : List ℕ) (x : Segment)
    (none short : Bool) → type_from octet ≡ Some type → (count == 0) ≡ none
    → nat_lt (length text) (count * octets_per width) ≡ short
    → (if none then None else if short then None else Some (cut_segment width type (count * octets_per width) text))
    ≡ Some (x, rest) → Begins (SpellsSegment width) (octet ∷ count ∷ text) x rest
guarded_begins width octet count type text rest x true short known none_is short_is found = absurd cc
guarded_begins width octet count type text rest x false true known none_is short_is found = absurd cc
guarded_begins width octet count type text rest x false false known none_is short_is found =
    let same : cut_segment width type (count * octets_per width) text ≡ (x, rest) = cc in
    subst (λ (p : Segment × List ℕ). Begins (SpellsSegment width) (octet ∷ count ∷ text) p.0 p.1) same
    (cut_begins width octet count type text known (some_counted count none_is)
    (ltb-false (length text) (count * octets_per width) short_is))
  where
    some_counted : (n : ℕ) → (n == 0) ≡ false → 0 < n
    some_counted zero no_zero = absurd cc
    some_counted (suc n) no_zero = omega arith

after_begins : (width : Width) (octet count : ℕ) (type : Option SegmentType) (text rest : List ℕ) (x : Segment)
    → type_from octet ≡ type
    → segment_after width type count text ≡ Some (x, rest) → Begins (SpellsSegment width) (octet ∷ count ∷ text) x rest
after_begins width octet count None text rest x known found = absurd cc
after_begins width octet count (Some type) text rest x known found =
    guarded_begins width octet count type text rest x (count == 0) (nat_lt (length text) (count * octets_per width))
    known refl refl found

segment_taken : (width : Width) (text rest : List ℕ) (x : Segment) → segment_front width text ≡ Some (x, rest)
    → Begins (SpellsSegment width) text x rest
segment_taken width [] rest x found = absurd cc
segment_taken width (octet ∷ []) rest x found = absurd cc
segment_taken width (octet ∷ count ∷ text) rest x found =
    after_begins width octet count (type_from octet) text rest x refl found

cut_again : (width : Width) (type : SegmentType) (numbers octets rest : List ℕ)
    → SpellsAll (SpellsNumber width) octets numbers
    → cut_segment width type (length numbers * octets_per width) (octets ++ rest) ≡ (segment_from type numbers, rest)
cut_again width type numbers octets rest spelled =
    ap (λ k. cut_segment width type k (octets ++ rest)) (sym (numbers-length width octets numbers spelled))
    ∙ ap (λ t. (segment_from type (numbers_in width t), drop (length octets) (octets ++ rest)))
    (take-append_seam octets rest)
    ∙ ap (λ t. (segment_from type (numbers_in width octets), t)) (drop-append_seam octets rest)
    ∙ ap (λ ns. (segment_from type ns, rest)) (numbers_in-spelled width octets numbers spelled)

after_again : (width : Width) (type : SegmentType) (numbers octets rest : List ℕ) → 0 < length numbers
    → SpellsAll (SpellsNumber width) octets numbers
    → segment_after width (Some type) (length numbers) (octets ++ rest) ≡ Some (segment_from type numbers, rest)
after_again width type [] octets rest some spelled = absurd (omega (arith, some))
after_again width type (n ∷ numbers) octets rest some spelled =
    let enough : length (n ∷ numbers) * octets_per width
    ≤ length (octets ++ rest) =
    omega (arith, numbers-length width octets (n ∷ numbers) spelled, length-append octets rest) in
    ap (λ b. if b then None else if nat_lt (length (octets ++ rest)) (length (n ∷ numbers) * octets_per width) then None
    else Some (cut_segment width type (length (n ∷ numbers) * octets_per width) (octets ++ rest)))
    (ne_eqb (length (n ∷ numbers)) 0 (λ zero_is. omega (arith, zero_is)))
    ∙ ap (λ b. if b then None
    else Some (cut_segment width type (length (n ∷ numbers) * octets_per width) (octets ++ rest)))
    (le-ltb (length (octets ++ rest)) (length (n ∷ numbers) * octets_per width) enough)
    ∙ ap (λ p. Some p) (cut_again width type (n ∷ numbers) octets rest spelled)

segment_again : (width : Width) (one rest : List ℕ) (x : Segment) → SpellsSegment width one x
    → segment_front width (one ++ rest) ≡ Some (x, rest)
segment_again width one rest x spelled =
    let known = type_from-type_of x in
    ap (λ t. segment_front width (t ++ rest)) spelled.parts
    ∙ ap (λ t. segment_after width t (length (numbers_of x)) (spelled.octets ++ rest)) known.1
    ∙ after_again width known.0 (numbers_of x) spelled.octets rest spelled.some spelled.numbers
    ∙ ap (λ s. Some (s, rest)) known.2

-- the function finds the segment that is spelled in front, and nothing else
pub segment_reads : (width : Width) → ReadsFront (SpellsSegment width) (segment_front width)
segment_reads width = record {
  taken = segment_taken width;
  again = segment_again width;
  some = λ one x spelled. let e : length one
      ≡ length (type_of x ∷ length (numbers_of x) ∷ spelled.octets) = ap length spelled.parts in omega arith;
}

-- taking a segment off leaves less
pub shorter : (width : Width) (text rest : List ℕ) (x : Segment) → segment_front width text ≡ Some (x, rest)
    → length rest < length text
shorter width text rest x found = rest_shorter (segment_reads width) text rest x found

-- the segments that a value spells are those in it
pub in_spelled : (width : Width) (value : List ℕ) (segments : List Segment) → IsPath width value segments
    → segments_in width value ≡ segments
in_spelled width value segments spelled =
    values_in-spelled (segment_front width) (segment_reads width) value segments spelled

-- a value that spells segments spells those in it
pub spelled_in : (width : Width) (value : List ℕ) (segments : List Segment) → IsPath width value segments
    → IsPath width value (segments_in width value)
spelled_in width value segments spelled =
    subst (λ (ss : List Segment). IsPath width value ss) (sym (in_spelled width value segments spelled)) spelled
