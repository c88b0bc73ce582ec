-- The hops of a path, how many there are, and the last of them.
use Rattle.std.proofs.Common.{◌≡◌, ℕ, zero, suc, ◌+◌, ◌-◌, ◌*◌, ◌<◌, ◌≤◌, false, List, [], ◌∷◌, ◌++◌, map, length, take}
use Rattle.std.proofs.Common.{drop, Option, Some, None, refl, ap, sym, ◌∙◌, length-append, length-drop, arith, ◌||◌}
use Rattle.std.proofs.Common.{if◌then◌else◌, nat_lt}
use Rattle.as_path.specs.declared.merge.Aggregators.{Aggregators}
use Rattle.std.proofs.lemmas.List.{append-nil, length-map, drop-drop}
use Rattle.std.proofs.Math.Nat.{suc-mul, zero-mul}
use Rattle.byteorder.specs.Endian.{big_number}
use Rattle.urpf_base.proofs.Series.{values_in-none, values_in-some}
use Rattle.as_path.specs.declared.widths.Width.{Width}
use Rattle.as_path.specs.declared.segments.SegmentType.{SegmentType}
use Rattle.as_path.specs.declared.segments.SegmentType.TheVariants.{Set, Sequence}
use Rattle.as_path.specs.Path.{Segment, as_set, as_sequence, numbers_of, octets_per, SpellsSegment, IsPath}
use Rattle.as_path.specs.Hops.{Hop, one_as, hops_of, hops, is_aggregated_anew, joined, merged, unless_zero, origin}
use Rattle.as_path.specs.Front.{numbers_in, segment_from, segment_front, segments_in}
use Rattle.as_path.proofs.NumberLaws.{some_octets, numbers-length, numbers_in-more, are_numbers}
use Rattle.as_path.proofs.PathLaws.{segment_reads}

-- a segment has no more hops than AS numbers, if it has any
hops_of-within : (s : Segment) → 0 < length (numbers_of s) → length (hops_of s) ≤ length (numbers_of s)
hops_of-within (as_set numbers) some = omega (arith, some)
hops_of-within (as_sequence numbers) some = omega (arith, length-map numbers one_as)

hops_of-some : (s : Segment) → 0 < length (numbers_of s) → 0 < length (hops_of s)
hops_of-some (as_set numbers) some = omega arith
hops_of-some (as_sequence numbers) some = omega (arith, some, length-map numbers one_as)

times_within : (width : Width) (n : ℕ) → n ≤ n * octets_per width
times_within width zero = omega arith
times_within width (suc n) = omega (arith, times_within width n, some_octets width, suc-mul n (octets_per width))

segment_within : (width : Width) (text : List ℕ) (s : Segment) → SpellsSegment width text s
    → length (hops_of s) ≤ length text
segment_within width text s spelled =
    omega (
      arith,
      hops_of-within s spelled.some,
      ap length spelled.parts,
      numbers-length width spelled.octets (numbers_of s) spelled.numbers,
      times_within width (length (numbers_of s)),
    )

-- a path has no more hops than its value has octets
pub hops-within : (width : Width) (value : List ℕ) (segments : List Segment) → IsPath width value segments
    → length (hops segments) ≤ length value
hops-within width value [] spelled = omega arith
hops-within width value (s ∷ segments) spelled =
    let b = spelled.1 in
    omega (
      arith,
      segment_within width b.one s b.spelled,
      hops-within width spelled.0 segments spelled.2,
      length-append (hops_of s) (hops segments),
      ap length b.parts,
      length-append b.one spelled.0,
    )

-- the hops are those of the first segment and those of the rest
pub hops-first : (width : Width) (text rest : List ℕ) (s : Segment) → segment_front width text ≡ Some (s, rest)
    → hops (segments_in width text) ≡ hops_of s ++ hops (segments_in width rest)
hops-first width text rest s found =
    ap hops (values_in-some (segment_front width) (segment_reads width) text rest s found)

-- where no segment is spelled in front there are no hops
pub hops-none : (width : Width) (text : List ℕ) → segment_front width text ≡ None → hops (segments_in width text) ≡ []
hops-none width text none = ap hops (values_in-none (segment_front width) text none)

-- the origin by the last of the segments, and this one where there are none
abbrev pub ending : Option ℕ → List Segment → Option ℕ
ending before [] = before
ending before (s ∷ segments) = ending (origin (hops_of s)) segments

pub ending-first : (width : Width) (text rest : List ℕ) (s : Segment) (o : Option ℕ)
    → segment_front width text ≡ Some (s, rest)
    → ending o (segments_in width text) ≡ ending (origin (hops_of s)) (segments_in width rest)
ending-first width text rest s o found =
    ap (ending o) (values_in-some (segment_front width) (segment_reads width) text rest s found)

pub ending-none : (width : Width) (text : List ℕ) (o : Option ℕ) → segment_front width text ≡ None
    → ending o (segments_in width text) ≡ o
ending-none width text o none = ap (ending o) (values_in-none (segment_front width) text none)

-- what comes before some hops does not count for the origin
pub origin-append : (xs ys : List Hop) → 0 < length ys → origin (xs ++ ys) ≡ origin ys
origin-append [] ys some = refl
origin-append (x ∷ []) [] some = absurd (omega (arith, some))
origin-append (x ∷ []) (y ∷ ys) some = refl
origin-append (x ∷ z ∷ xs) ys some = origin-append (z ∷ xs) ys some

hops-some : (width : Width) (value : List ℕ) (s : Segment) (segments : List Segment) → IsPath width value (s ∷ segments)
    → 0 < length (hops (s ∷ segments))
hops-some width value s segments spelled =
    omega (arith, hops_of-some s spelled.1.spelled.some, length-append (hops_of s) (hops segments))

-- a path's origin is that of its last segment
pub origin_by_ending : (width : Width) (value : List ℕ) (s : Segment) (segments : List Segment) (o : Option ℕ)
    → IsPath width value (s ∷ segments) → ending o (s ∷ segments) ≡ origin (hops (s ∷ segments))
origin_by_ending width value s [] o spelled = ap origin (sym (append-nil (hops_of s)))
origin_by_ending width value s (t ∷ segments) o spelled =
    origin_by_ending width spelled.0 t segments (origin (hops_of s)) spelled.2
    ∙ sym (origin-append (hops_of s) (hops (t ∷ segments)) (hops-some width spelled.0 t segments spelled.2))

pub ending_is_origin : (width : Width) (value : List ℕ) (segments : List Segment) → IsPath width value segments
    → ending None segments ≡ origin (hops segments)
ending_is_origin width value [] spelled = refl
ending_is_origin width value (s ∷ segments) spelled = origin_by_ending width value s segments None spelled

no_numbers : (width : Width) (text : List ℕ) → length text ≡ 0 → numbers_in width text ≡ []
no_numbers width [] none = refl
no_numbers width (x ∷ text) none = absurd (omega (arith, none))

-- the origin of a sequence is its last AS number, which stands in its last octets
pub origin-numbers : (width : Width) (count : ℕ) (text : List ℕ) → length text ≡ suc count * octets_per width
    → origin (map one_as (numbers_in width text))
    ≡ unless_zero (big_number (octets_per width) (drop (length text - octets_per width) text))
origin-numbers width zero text whole =
    let k = octets_per width in
    let enough : k ≤ length text = omega (arith, whole, suc-mul 0 k, zero-mul k) in
    let none : length (drop k text) ≡ 0 = omega (arith, whole, suc-mul 0 k, zero-mul k, length-drop k text) in
    let all : length text - k ≡ 0 = omega (arith, whole, suc-mul 0 k, zero-mul k) in
    ap (λ ns. origin (map one_as ns)) (numbers_in-more width text enough)
    ∙ ap (λ ns. origin (one_as (big_number k text) ∷ map one_as ns)) (no_numbers width (drop k text) none)
    ∙ ap (λ n. unless_zero (big_number k (drop n text))) (sym all)
origin-numbers width (suc count) text whole =
    let k = octets_per width in
    let twice : length text ≡ (count * k + k) + k = whole ∙ suc-mul (suc count) k ∙ ap (λ n. n + k) (suc-mul count k) in
    let enough : k ≤ length text = omega (arith, twice) in
    let rest : length (drop k text) ≡ suc count * k = omega (arith, twice, length-drop k text, suc-mul count k) in
    let are = are_numbers width (suc count) (drop k text) rest in
    let some : 0
    < length (map (λ n. one_as n) (numbers_in width (drop k text))) =
    omega (arith, length-map (numbers_in width (drop k text)) one_as, are.counted) in
    let place : k + (length (drop k text) - k) ≡ length text - k = omega (arith, twice, length-drop k text) in
    ap (λ ns. origin (map one_as ns)) (numbers_in-more width text enough)
    ∙ origin-append (one_as (big_number k text) ∷ []) (map one_as (numbers_in width (drop k text))) some
    ∙ origin-numbers width count (drop k text) rest
    ∙ ap (λ t. unless_zero (big_number k t)) (drop-drop (length (drop k text) - k) k text)
    ∙ ap (λ n. unless_zero (big_number k (drop n text))) place

-- so are those of a segment that is one
pub origin-segment : (width : Width) (type : SegmentType) (count : ℕ) (text : List ℕ) (last : ℕ) (found : Option ℕ)
    → type ≡ Sequence → 0 < count → length text ≡ count * octets_per width
    → last ≡ big_number (octets_per width) (drop (length text - octets_per width) text) → found ≡ unless_zero last
    → found ≡ origin (hops_of (segment_from type (numbers_in width text)))
origin-segment width Set count text last found is some whole last_is found_is = absurd cc
origin-segment width Sequence zero text last found is some whole last_is found_is = absurd (omega (arith, some))
origin-segment width Sequence (suc count) text last found is some whole last_is found_is =
    found_is ∙ ap unless_zero last_is ∙ sym (origin-numbers width count text whole)

-- the hops of one more segment are counted
pub hops_counted : (width : Width) (text rest : List ℕ) (s : Segment) (count hop total : ℕ)
    → segment_front width text ≡ Some (s, rest) → hop ≡ length (hops_of s)
    → count + length (hops (segments_in width text)) ≡ total
    → (count + hop) + length (hops (segments_in width rest)) ≡ total
hops_counted width text rest s count hop total found hop_is counted =
    omega (
      arith,
      hop_is,
      counted,
      ap length (hops-first width text rest s found),
      length-append (hops_of s) (hops (segments_in width rest)),
    )

-- where AS4_PATH counts and has hops, the origin is its own
pub origin-merged : (path four : List Segment) (aggregators : Aggregators)
    → is_aggregated_anew aggregators.own aggregators.four ≡ false → 0 < length (hops four)
    → nat_lt (length (hops path)) (length (hops four)) ≡ false
    → origin (merged path (Some four) aggregators) ≡ origin (hops four)
origin-merged path four aggregators counts some fewer =
    ap (λ b. origin
    (if b || nat_lt (length (hops path)) (length (hops four)) then hops path else joined (hops path) (hops four)))
    counts
    ∙ ap (λ b. origin (if b then hops path else joined (hops path) (hops four))) fewer
    ∙ origin-append (take (length (hops path) - length (hops four)) (hops path)) (hops four) some
