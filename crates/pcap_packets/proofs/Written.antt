-- A capture file that is written is read as it was written, in either order of octets.
use Rattle.std.proofs.Common.{◌≡◌, ◌⊎◌, inl, inr, ℕ, ◌<◌, ◌≤◌, ◌^◌, if◌then◌else◌, List, [], ◌∷◌, ◌++◌, length, map}
use Rattle.std.proofs.Common.{drop, All, Some, None, refl, ap, sym, subst, ◌∙◌, append_assoc, append-nil, length-append}
use Rattle.std.proofs.Common.{arith, le-ltb}
use Rattle.std.proofs.lemmas.List.Elements.{All-head, All-tail}
use Rattle.std.proofs.Math.Seq.{drop-append_seam}
use Rattle.std.specs.List.{flat_map}
use Rattle.byteorder.specs.Endian.{big_number, little_number, big_bytes, little_bytes}
use Rattle.byteorder.specs.Numbers.{big_number-reads_back, little_number-reads_back, length-bytes_high_first, length-bytes_low_first}
use Rattle.urpf_base.specs.Series.{Begins, SpellsAll}
use Rattle.urpf_base.proofs.Series.{front_begins, values_in-spelled}
use Rattle.feed_io.proofs.TraceFeeds.{none_is_not}
use Rattle.pcap_packets.specs.Captures.{SpellsFrame, IsCapture, frame_front, records_behind, pcap_records}
use Rattle.pcap_packets.specs.Formats.{number_in, order_of, link_of, with_link, in_order, format_of}
use Rattle.pcap_packets.specs.Frames.{frame_record}
use Rattle.pcap_packets.specs.Spelling.{Captured, Capture, IsReadable, ordered_octets, header_octets, captured_octets}
use Rattle.pcap_packets.specs.Spelling.{file_octets, format_in}
use Rattle.pcap_packets.specs.declared.formats.Order.{Order}
use Rattle.pcap_packets.specs.declared.formats.Order.TheVariants.{BigEndian, LittleEndian}
use Rattle.pcap_packets.specs.declared.formats.Link.{Link}
use Rattle.pcap_packets.specs.declared.formats.Link.TheVariants.{Ethernet, Raw}
use Rattle.pcap_packets.specs.declared.formats.Format.{Format}
use Rattle.pcap_packets.specs.declared.formats.TheConstants.{MICROSECONDS, NANOSECONDS, ETHERNET, RAW_IP}
use Rattle.pcap_packets.specs.declared.part.TheConstants.{CAPTURED_OCTETS}
use Rattle.pcap_packets.proofs.Captures.{order-append, format-append, drop-headed, frames_read}

-- ---- numbers

pub length-ordered : (order : Order) (count number : ℕ) → length (ordered_octets order count number) ≡ count
length-ordered BigEndian count number = length-bytes_high_first count number
length-ordered LittleEndian count number = length-bytes_low_first 0 count number

pub number-ordered : (order : Order) (number : ℕ) → number < 256 ^ 4
    → number_in order (ordered_octets order 4 number) ≡ number
number-ordered BigEndian number within =
    ap (big_number 4) (sym (append-nil (big_bytes 4 number))) ∙ big_number-reads_back 4 number [] within
number-ordered LittleEndian number within =
    ap (little_number 4) (sym (append-nil (little_bytes 4 number))) ∙ little_number-reads_back 4 number [] within

-- ---- the header

order_told : (order : Order) (magic : ℕ) → (magic ≡ MICROSECONDS) ⊎ (magic ≡ NANOSECONDS)
    → order_of (ordered_octets order 4 magic) ≡ Some order
order_told BigEndian magic (inl is) = ap (λ m. order_of (ordered_octets BigEndian 4 m)) is
order_told BigEndian magic (inr is) = ap (λ m. order_of (ordered_octets BigEndian 4 m)) is
order_told LittleEndian magic (inl is) = ap (λ m. order_of (ordered_octets LittleEndian 4 m)) is
order_told LittleEndian magic (inr is) = ap (λ m. order_of (ordered_octets LittleEndian 4 m)) is

link_small : (link : ℕ) → (link ≡ ETHERNET) ⊎ (link ≡ RAW_IP) → link < 256 ^ 4
link_small link (inl is) = rw is (omega arith)
link_small link (inr is) = rw is (omega arith)

link_known : (link : ℕ) → (link ≡ ETHERNET) ⊎ (link ≡ RAW_IP) → (known : Link) × (link_of link ≡ Some known)
link_known link (inl is) = (Ethernet, ap link_of is)
link_known link (inr is) = (Raw, ap link_of is)

-- the octets of a header before the last four
abbrev before_link : Order → Capture → List ℕ
before_link order c =
    ordered_octets order 4 c.magic ++ (ordered_octets order 2 c.major ++ (ordered_octets order 2 c.minor
    ++ (ordered_octets order 4 c.zone ++ (ordered_octets order 4 c.accuracy ++ ordered_octets order 4 c.snapped))))

twenty_before : (order : Order) (c : Capture) → length (before_link order c) ≡ 20
twenty_before order c =
    let magic = ordered_octets order 4 c.magic in
    let major = ordered_octets order 2 c.major in
    let minor = ordered_octets order 2 c.minor in
    let zone = ordered_octets order 4 c.zone in
    let accuracy = ordered_octets order 4 c.accuracy in
    let snapped = ordered_octets order 4 c.snapped in
    omega (
      arith,
      length-append magic (major ++ (minor ++ (zone ++ (accuracy ++ snapped)))),
      length-append major (minor ++ (zone ++ (accuracy ++ snapped))),
      length-append minor (zone ++ (accuracy ++ snapped)),
      length-append zone (accuracy ++ snapped),
      length-append accuracy snapped,
      length-ordered order 4 c.magic,
      length-ordered order 2 c.major,
      length-ordered order 2 c.minor,
      length-ordered order 4 c.zone,
      length-ordered order 4 c.accuracy,
      length-ordered order 4 c.snapped,
    )

link_last : (order : Order) (c : Capture)
    → header_octets order c ≡ before_link order c ++ ordered_octets order 4 c.link
link_last order c = simp append_assoc refl

pub header_whole : (order : Order) (c : Capture) → length (header_octets order c) ≡ 24
header_whole order c =
    ap length (link_last order c)
    ∙ omega (
      arith,
      twenty_before order c,
      length-ordered order 4 c.link,
      length-append (before_link order c) (ordered_octets order 4 c.link),
    )

link_told : (order : Order) (c : Capture) → c.link < 256 ^ 4
    → number_in order (drop 20 (header_octets order c)) ≡ c.link
link_told order c small =
    ap (λ t. number_in order (drop 20 t)) (link_last order c)
    ∙ ap (λ k. number_in order (drop k (before_link order c ++ ordered_octets order 4 c.link))) (sym (twenty_before order c))
    ∙ ap (number_in order) (drop-append_seam (before_link order c) (ordered_octets order 4 c.link))
    ∙ number-ordered order c.link small

abbrev behind_magic : Order → Capture → List ℕ
behind_magic order c =
    ordered_octets order 2 c.major ++ (ordered_octets order 2 c.minor ++ (ordered_octets order 4 c.zone
    ++ (ordered_octets order 4 c.accuracy ++ (ordered_octets order 4 c.snapped ++ ordered_octets order 4 c.link))))

header_says : (order : Order) (link : Link) (c : Capture) → IsReadable c → link_of c.link ≡ Some link
    → format_of (header_octets order c) ≡ Some (format_in order link)
header_says order link c is known =
    let header = header_octets order c in
    ap (λ o. in_order o header)
    (order-append (ordered_octets order 4 c.magic) (behind_magic order c) (omega (arith, length-ordered order 4 c.magic))
    ∙ order_told order c.magic is.magic)
    ∙ ap (λ n. with_link order (link_of n)) (link_told order c (link_small c.link is.link))
    ∙ ap (with_link order) known

-- ---- the records

-- no frame is too long
abbrev Fits : Captured → Type 0
Fits r = length r.frame ≤ CAPTURED_OCTETS

captured_spelled : (order : Order) (r : Captured) → length r.frame ≤ CAPTURED_OCTETS
    → SpellsFrame order (captured_octets order r) r.frame
captured_spelled order r most = record {
  time = ordered_octets order 4 r.seconds ++ ordered_octets order 4 r.fraction;
  captured = ordered_octets order 4 (length r.frame);
  original = ordered_octets order 4 r.original;
  eight = omega (
    arith,
    length-ordered order 4 r.seconds,
    length-ordered order 4 r.fraction,
    length-append (ordered_octets order 4 r.seconds) (ordered_octets order 4 r.fraction),
  );
  four = (length-ordered order 4 (length r.frame), length-ordered order 4 r.original);
  captured_is = sym (number-ordered order (length r.frame) (omega (arith, most)));
  most = most;
  parts = refl;
}

all_spelled : (order : Order) (rs : List Captured) → All Fits rs
    → SpellsAll (SpellsFrame order) (flat_map (captured_octets order) rs) (map (λ r. r.frame) rs)
all_spelled order [] most = refl
all_spelled order (r ∷ rs) most = (
  flat_map (captured_octets order) rs,
  record {
    one = captured_octets order r;
    spelled = captured_spelled order r (All-head Fits r rs most);
    parts = refl;
  },
  all_spelled order rs (All-tail Fits r rs most),
)

-- ---- the file

pub file_spelled : (order : Order) (link : Link) (c : Capture) → IsReadable c → link_of c.link ≡ Some link
    → IsCapture (file_octets order c) (format_in order link) (map (λ r. r.frame) c.captured)
file_spelled order link c is known =
    let header = header_octets order c in
    let behind = flat_map (captured_octets order) c.captured in
    let frames = map (λ (r : Captured). r.frame) c.captured in
    record {
      header = omega (arith, header_whole order c, length-append header behind);
      says = format-append header behind (omega (arith, header_whole order c)) ∙ header_says order link c is known;
      records = subst (λ (t : List ℕ). SpellsAll (SpellsFrame order) t frames)
          (sym (drop-headed header behind (header_whole order c))) (all_spelled order c.captured is.frames);
    }

pub capture_read : (text : List ℕ) (format : Format) (frames : List (List ℕ)) (iface : ℕ) → IsCapture text format frames
    → pcap_records text iface ≡ flat_map (frame_record format.link iface) frames
capture_read text format frames iface is =
    ap (λ b. if b then [] else records_behind (format_of text) iface (drop 24 text)) (le-ltb (length text) 24 is.header)
    ∙ ap (λ f. records_behind f iface (drop 24 text)) is.says
    ∙ ap (flat_map (frame_record format.link iface))
    (values_in-spelled (frame_front format.order) (frames_read format.order) (drop 24 text) frames is.records)

-- the records of its frames, whatever the order is
file_read : (order : Order) (link : Link) (c : Capture) (iface : ℕ) → IsReadable c → link_of c.link ≡ Some link
    → pcap_records (file_octets order c) iface ≡ flat_map (frame_record link iface) (map (λ r. r.frame) c.captured)
file_read order link c iface is known =
    capture_read (file_octets order c) (format_in order link) (map (λ (r : Captured). r.frame) c.captured) iface
    (file_spelled order link c is known)

pub either_order : (c : Capture) (iface : ℕ) → IsReadable c
    → pcap_records (file_octets BigEndian c) iface ≡ pcap_records (file_octets LittleEndian c) iface
either_order c iface is =
    let known = link_known c.link is.link in
    file_read BigEndian known.0 c iface is known.1 ∙ sym (file_read LittleEndian known.0 c iface is known.1)

pub frame_is_on : (order : Order) (text frame rest : List ℕ) → Begins (SpellsFrame order) text frame rest
    → frame_front order text ≡ None → ⊥
frame_is_on order text frame rest begins none =
    none_is_not (frame, rest) (frame_front order text) (front_begins (frames_read order) text rest frame begins) none
