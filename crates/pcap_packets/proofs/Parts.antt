-- What is left behind a part that grows or ends.
use Rattle.std.proofs.Common.{◌≡◌, ℕ, ◌+◌, ◌<◌, ◌≤◌, Bool, true, false, nat_lt, if◌then◌else◌, List, [], ◌∷◌, ◌++◌}
use Rattle.std.proofs.Common.{length, take, drop, Some, None, refl, ap, sym, subst, ◌∙◌, append_assoc, append-nil}
use Rattle.std.proofs.Common.{length-append, arith, le-ltb, ltb-false}
use Rattle.std.proofs.lemmas.Bool.{lt-ltb, ltb-true}
use Rattle.std.proofs.Math.Seq.{take-append-add, drop-append-add}
use Rattle.urpf_base.specs.Series.{SpellsAll}
use Rattle.urpf_base.proofs.Series.{spells-more, spells-less, spells_nothing}
use Rattle.pcap_packets.specs.Captures.{SpellsFrame, IsCapture, captured_front, frame_front, records_behind, pcap_records}
use Rattle.pcap_packets.specs.Formats.{number_in, format_of}
use Rattle.pcap_packets.specs.Frames.{frame_record}
use Rattle.pcap_packets.specs.Reading.{frame_left, stage_left, part_left, StageEnds, EndsWell, StageFits, IsUnfinished}
use Rattle.pcap_packets.specs.Reading.{IsOff, Reads, part_of}
use Rattle.pcap_packets.specs.declared.formats.Format.{Format}
use Rattle.pcap_packets.specs.declared.part.Part.{Part}
use Rattle.pcap_packets.specs.declared.part.Stage.{Stage}
use Rattle.pcap_packets.specs.declared.part.Stage.TheVariants.{FileHeader, RecordHeader, Frame}
use Rattle.pcap_packets.specs.declared.part.TheConstants.{CAPTURED_OCTETS}
use Rattle.pcap_packets.proofs.Captures.{captured_short, captured_there, captured_long, front_short, front_headed, frames_read, records_found}
use Rattle.pcap_packets.proofs.Captures.{records_none, format-append, pcap-headed, drop-headed}
use Rattle.pcap_packets.proofs.FrontOctets.{record-front}

-- a part of this stage
pub staged : (part : Part) (stage : Stage) → part.stage ≡ stage → part ≡ part_of stage part.front part.missing
staged part stage is = ap (λ s. part_of s part.front part.missing) is

-- ---- a piece of a frame

lt_shift : (n c d : ℕ) (less : Bool) → nat_lt c d ≡ less → nat_lt (n + c) (n + d) ≡ less
lt_shift n c d true is = lt-ltb (n + c) (n + d) (omega (arith, ltb-true c d is))
lt_shift n c d false is = le-ltb (n + c) (n + d) (omega (arith, ltb-false c d is))

frame_on : (format : Format) (iface : ℕ) (front piece text : List ℕ) (k : ℕ)
    → frame_left format iface front (length piece + k) (piece ++ text) ≡ frame_left format iface (front ++ piece) k text
frame_on format iface front piece text k =
    let n = length piece + k in
    let all = piece ++ text in
    ap (λ m. if nat_lt m n then [] else frame_record format.link iface (front ++ take n all)
    ++ records_behind (Some format) iface (drop n all)) (length-append piece text)
    ∙ ap (λ b. if b then [] else frame_record format.link iface (front ++ take n all)
    ++ records_behind (Some format) iface (drop n all))
    (lt_shift (length piece) (length text) k (nat_lt (length text) k) refl)
    ∙ ap (λ t. if nat_lt (length text) k then [] else frame_record format.link iface (front ++ t)
    ++ records_behind (Some format) iface (drop n all)) (take-append-add piece text k)
    ∙ ap (λ t. if nat_lt (length text) k then [] else frame_record format.link iface t
    ++ records_behind (Some format) iface (drop n all)) (sym (append_assoc front piece (take k text)))
    ∙ ap (λ t. if nat_lt (length text) k then [] else frame_record format.link iface ((front ++ piece) ++ take k text)
    ++ records_behind (Some format) iface t) (drop-append-add piece text k)

-- what is read over does not count
frame_over : (format : Format) (iface : ℕ) (front piece text : List ℕ) (k : ℕ) → 78 ≤ length front
    → frame_left format iface front (length piece + k) (piece ++ text) ≡ frame_left format iface front k text
frame_over format iface front piece text k long =
    frame_on format iface front piece text k
    ∙ ap (λ r. if nat_lt (length text) k then [] else r ++ records_behind (Some format) iface (drop k text))
    (record-front format.link iface (front ++ piece) (take k text) (omega (arith, long, length-append front piece))
    ∙ record-front format.link iface front piece long
    ∙ sym (record-front format.link iface front (take k text) long))

frame_ends : (format : Format) (front now piece text : List ℕ) (k : ℕ)
    → StageEnds (Frame format) front (length piece + k) (piece ++ text) → StageEnds (Frame format) now k text
frame_ends format front now piece text k ends = (
  omega (arith, ends.0, length-append piece text),
  (
    ends.1.0,
    subst (λ (t : List ℕ). SpellsAll (SpellsFrame format.order) t ends.1.0) (drop-append-add piece text k)
        ends.1.1,
  ),
)

frame_ends_back : (format : Format) (front now piece text : List ℕ) (k : ℕ)
    → StageEnds (Frame format) now k text → StageEnds (Frame format) front (length piece + k) (piece ++ text)
frame_ends_back format front now piece text k ends = (
  omega (arith, ends.0, length-append piece text),
  (
    ends.1.0,
    subst (λ (t : List ℕ). SpellsAll (SpellsFrame format.order) t ends.1.0)
        (sym (drop-append-add piece text k)) ends.1.1,
  ),
)

frame_grows : (iface : ℕ) (format : Format) (front piece unsent : List ℕ) (k : ℕ)
    → Reads iface (part_of (Frame format) front (length piece + k)) unsent piece
    (part_of (Frame format) (front ++ piece) k) unsent
frame_grows iface format front piece unsent k = record {
  same = λ text. ap (λ r. unsent ++ r) (frame_on format iface front piece text k);
  on = λ text ends. frame_ends format front (front ++ piece) piece text k ends;
  back = λ text ends. frame_ends_back format front (front ++ piece) piece text k ends;
}

frame_passes : (iface : ℕ) (format : Format) (front piece unsent : List ℕ) (k : ℕ) → 78 ≤ length front
    → Reads iface (part_of (Frame format) front (length piece + k)) unsent piece (part_of (Frame format) front k) unsent
frame_passes iface format front piece unsent k long = record {
  same = λ text. ap (λ r. unsent ++ r) (frame_over format iface front piece text k long);
  on = λ text ends. frame_ends format front front piece text k ends;
  back = λ text ends. frame_ends_back format front front piece text k ends;
}

-- ---- a piece of any part

-- it goes behind the octets that are kept
pub part_grows : (iface : ℕ) (stage : Stage) (front piece unsent : List ℕ) (missing now : ℕ) → missing ≡ length piece + now
    → Reads iface (part_of stage front missing) unsent piece (part_of stage (front ++ piece) now) unsent
part_grows iface FileHeader front piece unsent missing now is = record {
  same = λ text. ap (λ t. unsent ++ pcap_records t iface) (sym (append_assoc front piece text));
  on = λ text ends. (
    ends.0,
    (
      ends.1.0,
      subst (λ (t : List ℕ). IsCapture t ends.0 ends.1.0)
          (sym (append_assoc front piece text)) ends.1.1,
    ),
  );
  back = λ text ends. (
    ends.0,
    (
      ends.1.0,
      subst (λ (t : List ℕ). IsCapture t ends.0 ends.1.0)
          (append_assoc front piece text) ends.1.1,
    ),
  );
}
part_grows iface (RecordHeader format) front piece unsent missing now is = record {
  same = λ text. ap (λ t. unsent ++ records_behind (Some format) iface t) (sym (append_assoc front piece text));
  on = λ text ends. (
    ends.0,
    subst (λ (t : List ℕ). SpellsAll (SpellsFrame format.order) t ends.0)
        (sym (append_assoc front piece text)) ends.1,
  );
  back = λ text ends. (
    ends.0,
    subst (λ (t : List ℕ). SpellsAll (SpellsFrame format.order) t ends.0)
        (append_assoc front piece text) ends.1,
  );
}
part_grows iface (Frame format) front piece unsent missing now is =
    rw is (frame_grows iface format front piece unsent now)

-- or is read over, where 78 octets are kept
pub part_passes : (iface : ℕ) (stage : Stage) (front piece unsent : List ℕ) (missing now : ℕ) → missing ≡ length piece + now
    → StageFits stage (length front) missing → 78 ≤ length front
    → Reads iface (part_of stage front missing) unsent piece (part_of stage front now) unsent
part_passes iface FileHeader front piece unsent missing now is fits long = absurd (omega (arith, fits, long))
part_passes iface (RecordHeader format) front piece unsent missing now is fits long = absurd (omega (arith, fits, long))
part_passes iface (Frame format) front piece unsent missing now is fits long =
    rw is (frame_passes iface format front piece unsent now long)

-- ---- one step after the other

pub reads_then : {iface : ℕ} {a b c : Part} {xs ys zs p q : List ℕ} → Reads iface a xs p b ys → Reads iface b ys q c zs
    → Reads iface a xs (p ++ q) c zs
reads_then {iface} {a} {b} {c} {xs} {ys} {zs} {p} {q} first second = record {
  same = λ text. ap (λ t. xs ++ part_left iface a t) (append_assoc p q text) ∙ first.same (q ++ text) ∙ second.same text;
  on = λ text ends. second.on text (first.on (q ++ text)
      (subst (λ (t : List ℕ). EndsWell a t) (append_assoc p q text) ends));
  back = λ text ends. subst (λ (t : List ℕ). EndsWell a t) (sym (append_assoc p q text))
      (first.back (q ++ text) (second.back text ends));
}

-- ---- the header of a file is whole

pub header_read : (iface : ℕ) (format : Format) (front unsent : List ℕ) (missing : ℕ) → length front ≡ 24
    → format_of front ≡ Some format
    → Reads iface (part_of FileHeader front missing) unsent [] (part_of (RecordHeader format) [] 16) unsent
header_read iface format front unsent missing whole says = record {
  same = λ text. ap (λ r. unsent ++ r)
      (pcap-headed front text iface whole ∙ ap (λ f. records_behind f iface text) says);
  on = λ text ends.
      let is : Some ends.0 ≡ Some format =
      sym ends.1.1.says ∙ format-append front text (omega (arith, whole)) ∙ says in
      let same : ends.0 ≡ format = cc in (
        ends.1.0,
        subst (λ (f : Format). SpellsAll (SpellsFrame f.order) text ends.1.0) same
            (subst (λ (t : List ℕ). SpellsAll (SpellsFrame ends.0.order) t ends.1.0) (drop-headed front text whole)
            ends.1.1.records),
      );
  back = λ text ends. (
    format,
    (
      ends.0,
      record {
        header = omega (arith, whole, length-append front text);
        says = format-append front text (omega (arith, whole)) ∙ says;
        records = subst (λ (t : List ℕ). SpellsAll (SpellsFrame format.order) t ends.0)
            (sym (drop-headed front text whole)) ends.1;
      },
    ),
  );
}

pub header_off : (iface : ℕ) (front text : List ℕ) (missing : ℕ) → length front ≡ 24 → format_of front ≡ None
    → IsOff iface (part_of FileHeader front missing) text
header_off iface front text missing whole says = record {
  none = pcap-headed front text iface whole ∙ ap (λ f. records_behind f iface text) says;
  wrong = λ ends.
      let is : Some ends.0 ≡ None = sym ends.1.1.says ∙ format-append front text (omega (arith, whole)) ∙ says in
      absurd cc;
}

-- ---- the header of a record is whole

record_left : (iface : ℕ) (format : Format) (front text : List ℕ) (count : ℕ) (short : Bool)
    → count ≤ CAPTURED_OCTETS → frame_front format.order (front ++ text) ≡ captured_front count text
    → nat_lt (length text) count ≡ short
    → records_behind (Some format) iface (front ++ text)
    ≡ (if short then [] else frame_record format.link iface (take count text)
    ++ records_behind (Some format) iface (drop count text))
record_left iface format front text count true most found is =
    records_none format iface (front ++ text) (found ∙ captured_short count text most (ltb-true (length text) count is))
record_left iface format front text count false most found is =
    records_found format iface (front ++ text) (drop count text) (take count text)
    (found ∙ captured_there count text most (ltb-false (length text) count is))

record_ends : (format : Format) (front text : List ℕ) (count : ℕ) (frames : List (List ℕ)) (short : Bool)
    → length front ≡ 16 → count ≤ CAPTURED_OCTETS → frame_front format.order (front ++ text) ≡ captured_front count text
    → nat_lt (length text) count ≡ short → SpellsAll (SpellsFrame format.order) (front ++ text) frames
    → StageEnds (Frame format) [] count text
record_ends format front text count frames true whole most found is spelled =
    absurd (spells_nothing (frame_front format.order) (frames_read format.order) (front ++ text) frames
    (found ∙ captured_short count text most (ltb-true (length text) count is))
    (omega (arith, whole, length-append front text)) spelled)
record_ends format front text count frames false whole most found is spelled =
    let less = spells-less (frame_front format.order) (frames_read format.order) (front ++ text) (drop count text)
    (take count text) frames (found ∙ captured_there count text most (ltb-false (length text) count is)) spelled in
    (ltb-false (length text) count is, (less.0, less.2))

pub record_read : (iface : ℕ) (format : Format) (front unsent : List ℕ) (missing count : ℕ) → length front ≡ 16
    → count ≡ number_in format.order (drop 8 front) → count ≤ CAPTURED_OCTETS
    → Reads iface (part_of (RecordHeader format) front missing) unsent [] (part_of (Frame format) [] count) unsent
record_read iface format front unsent missing count whole number most =
    let found = λ (text : List ℕ). front_headed format.order front text whole
    ∙ ap (λ n. captured_front n text) (sym number) in
    record {
      same = λ text. ap (λ r. unsent ++ r)
          (record_left iface format front text count (nat_lt (length text) count) most (found text) refl);
      on = λ text ends.
          record_ends format front text count ends.0 (nat_lt (length text) count) whole most (found text) refl ends.1;
      back = λ text ends. (
        take count text ∷ ends.1.0,
        spells-more (frame_front format.order) (frames_read format.order) (front ++ text) (drop count text)
            (take count text) ends.1.0 (found text ∙ captured_there count text most ends.0) ends.1.1,
      );
    }

pub record_off : (iface : ℕ) (format : Format) (front text : List ℕ) (missing : ℕ) → length front ≡ 16
    → CAPTURED_OCTETS < number_in format.order (drop 8 front)
    → IsOff iface (part_of (RecordHeader format) front missing) text
record_off iface format front text missing whole long =
    let none : frame_front format.order (front ++ text) ≡ None =
    front_headed format.order front text whole
    ∙ captured_long (number_in format.order (drop 8 front)) text long in
    record {
      none = records_none format iface (front ++ text) none;
      wrong = λ ends. spells_nothing (frame_front format.order) (frames_read format.order) (front ++ text) ends.0 none
          (omega (arith, whole, length-append front text)) ends.1;
    }

-- ---- a frame is whole

pub frame_read : (iface : ℕ) (format : Format) (front : List ℕ)
    → Reads iface (part_of (Frame format) front 0) [] [] (part_of (RecordHeader format) [] 16)
    (frame_record format.link iface front)
frame_read iface format front = record {
  same = λ text. ap (λ b. if b then [] else frame_record format.link iface (front ++ [])
      ++ records_behind (Some format) iface text) (le-ltb (length text) 0 (omega arith))
      ∙ ap (λ t. frame_record format.link iface t ++ records_behind (Some format) iface text) (append-nil front);
  on = λ text ends. ends.1;
  back = λ text ends. (omega arith, ends);
}

-- ---- the end of the source within a part

pub nothing_more : (iface : ℕ) (stage : Stage) (front : List ℕ) (missing : ℕ) → StageFits stage (length front) missing
    → 0 < missing → stage_left stage iface front missing [] ≡ []
nothing_more iface FileHeader front missing fits some =
    ap (λ b. if b then [] else records_behind (format_of (front ++ [])) iface (drop 24 (front ++ [])))
    (lt-ltb (length (front ++ [])) 24 (omega (arith, fits, some, length-append front [])))
nothing_more iface (RecordHeader format) front missing fits some =
    records_none format iface (front ++ []) (front_short format.order (front ++ [])
    (omega (arith, fits, some, length-append front [])))
nothing_more iface (Frame format) front missing fits some =
    ap (λ b. if b then [] else frame_record format.link iface (front ++ take missing [])
    ++ records_behind (Some format) iface (drop missing [])) (lt-ltb 0 missing some)

-- is no whole file, but before a record
pub within_header : (front : List ℕ) (missing : ℕ) → StageFits FileHeader (length front) missing → 0 < missing
    → StageEnds FileHeader front missing [] → ⊥
within_header front missing fits some ends =
    omega (arith, fits, some, ends.1.1.header, length-append front [])

pub within_record : (format : Format) (front : List ℕ) (missing : ℕ)
    → StageFits (RecordHeader format) (length front) missing → 0 < missing → 0 < length front
    → StageEnds (RecordHeader format) front missing [] → ⊥
within_record format front missing fits some begun ends =
    spells_nothing (frame_front format.order) (frames_read format.order) (front ++ []) ends.0
    (front_short format.order (front ++ []) (omega (arith, fits, some, length-append front [])))
    (omega (arith, begun, length-append front [])) ends.1

pub record_end : (iface : ℕ) (part : Part) (format : Format) → part.stage ≡ RecordHeader format → IsUnfinished part
    → 0 < length part.front → IsOff iface part []
record_end iface part format stage is begun =
    let fits : StageFits (RecordHeader format) (length part.front) part.missing =
    subst (λ (s : Stage). StageFits s (length part.front) part.missing) stage is.fits in
    subst (λ (p : Part). IsOff iface p []) (sym (staged part (RecordHeader format) stage))
    (record {
      none = nothing_more iface (RecordHeader format) part.front part.missing fits is.some;
      wrong = within_record format part.front part.missing fits is.some begun;
    })
