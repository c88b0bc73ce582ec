-- Which frames have a packet, and that nothing else is given than their records.
use Rattle.std.proofs.Common.{◌≡◌, ◌⊎◌, inl, inr, ℕ, ◌+◌, ◌<◌, ◌≤◌, Bool, true, false, ◌==◌, nat_lt, min, if◌then◌else◌, List}
use Rattle.std.proofs.Common.{[], ◌∷◌, ◌++◌, length, take, drop, Option, Some, None, refl, ap, sym, ◌∙◌, append_assoc, append-nil}
use Rattle.std.proofs.Common.{length-append, length-take, length-drop, arith, ltb-false, eqb-true}
use Rattle.std.proofs.lemmas.List.{take-append-drop, drop-drop}
use Rattle.std.proofs.Math.Seq.{drop-append_seam}
use Rattle.std.specs.List.{flat_map}
use Rattle.byteorder.specs.Endian.{big_number, big_bytes}
use Rattle.byteorder.specs.Numbers.{big_number-reads_back, length-bytes_high_first, big_from-append, big_from-take}
use Rattle.urpf_base.specs.Series.{SpellsAll}
use Rattle.urpf_base.proofs.Series.{spells-append}
use Rattle.feed_io.specs.Packets.{SpellsPacket, SpellsRecord, records_in}
use Rattle.feed_io.specs.declared.packet_source.TheConstants.{PACKET}
use Rattle.feed_io.proofs.Packets.{records_whole}
use Rattle.pcap_packets.specs.Frames.{is_ip, tagged_offset, typed_offset, packet_offset, packet_record}
use Rattle.pcap_packets.specs.Frames.{record_behind, frame_record}
use Rattle.pcap_packets.specs.Given.{packets_behind, packets_of}
use Rattle.pcap_packets.specs.Spelling.{IsIpType, IsFramed, IsTagged, HasPacket}
use Rattle.pcap_packets.specs.declared.formats.Link.{Link}
use Rattle.pcap_packets.specs.declared.formats.Link.TheVariants.{Ethernet}
use Rattle.pcap_packets.specs.declared.frames.TheConstants.{IPV4, IPV6, VLAN_TAG}
use Rattle.pcap_packets.proofs.FrontOctets.{tagged_long, ethernet_long}

-- ---- a frame with a packet

drop-front : (count : ℕ) (front more : List ℕ) → length front ≡ count → drop count (front ++ more) ≡ more
drop-front count front more is = ap (λ k. drop k (front ++ more)) (sym is) ∙ drop-append_seam front more

-- two octets behind a front are the number there
field_at : (at : ℕ) (front field more frame : List ℕ) → length front ≡ at → length field ≡ 2
    → frame ≡ front ++ (field ++ more) → big_number 2 (drop at frame) ≡ big_number 2 field
field_at at front field more frame long two is =
    ap (λ t. big_number 2 (drop at t)) is
    ∙ ap (big_number 2) (drop-front at front (field ++ more) long)
    ∙ big_from-append 2 field more (omega (arith, two))

ip_type : (kind : List ℕ) → IsIpType kind → is_ip (big_number 2 kind) ≡ true
ip_type kind (two, inl is) = ap is_ip is
ip_type kind (two, inr is) = ap is_ip is

framed_record : (iface : ℕ) (frame packet : List ℕ) → IsFramed frame packet
    → frame_record Ethernet iface frame ≡ packet_record iface packet
framed_record iface frame packet f =
    let header = f.addresses ++ f.kind in
    let fourteen : length header ≡ 14 = omega (arith, f.twelve, f.ip.0, length-append f.addresses f.kind) in
    let split : frame ≡ header ++ packet = f.parts ∙ sym (append_assoc f.addresses f.kind packet) in
    ap (λ o. record_behind iface o frame)
    (ethernet_long frame (omega (arith, fourteen, ap length split, length-append header packet))
    ∙ ap (λ n. typed_offset n frame) (field_at 12 f.addresses f.kind packet frame f.twelve f.ip.0 f.parts)
    ∙ ap (λ b. if b then Some 14 else if big_number 2 f.kind == VLAN_TAG then tagged_offset frame else None)
    (ip_type f.kind f.ip))
    ∙ ap (λ t. packet_record iface (drop 14 t)) split
    ∙ ap (packet_record iface) (drop-front 14 header packet fourteen)

tagged_record : (iface : ℕ) (frame packet : List ℕ) → IsTagged frame packet
    → frame_record Ethernet iface frame ≡ packet_record iface packet
tagged_record iface frame packet f =
    let front = f.addresses ++ (f.mark ++ f.tag) in
    let header = front ++ f.kind in
    let sixteen : length front ≡ 16 =
    omega (arith, f.twelve, f.two, length-append f.addresses (f.mark ++ f.tag), length-append f.mark f.tag) in
    let eighteen : length header ≡ 18 = omega (arith, sixteen, f.ip.0, length-append front f.kind) in
    let inner : frame ≡ front ++ (f.kind ++ packet) = f.parts ∙ simp append_assoc refl in
    let split : frame ≡ header ++ packet = inner ∙ sym (append_assoc front f.kind packet) in
    let long : 18 ≤ length frame = omega (arith, eighteen, ap length split, length-append header packet) in
    ap (λ o. record_behind iface o frame)
    (ethernet_long frame (omega (arith, long))
    ∙ ap (λ n. typed_offset n frame)
    (field_at 12 f.addresses f.mark (f.tag ++ (f.kind ++ packet)) frame f.twelve f.two.0 f.parts ∙ f.tagged)
    ∙ tagged_long frame long
    ∙ ap (λ n. if is_ip n then Some 18 else None) (field_at 16 front f.kind packet frame sixteen f.ip.0 inner)
    ∙ ap (λ b. if◌then◌else◌ {A = Option ℕ} b (Some 18) None) (ip_type f.kind f.ip))
    ∙ ap (λ t. packet_record iface (drop 18 t)) split
    ∙ ap (packet_record iface) (drop-front 18 header packet eighteen)

pub packet_given : (iface : ℕ) (frame packet : List ℕ) → HasPacket frame packet
    → frame_record Ethernet iface frame ≡ packet_record iface packet
packet_given iface frame packet (inl f) = framed_record iface frame packet f
packet_given iface frame packet (inr f) = tagged_record iface frame packet f

-- ---- a frame without one

ip_cases : (kind : ℕ) (four : Bool) → (kind == IPV4) ≡ four → (if four then true else kind == IPV6) ≡ true
    → (kind ≡ IPV4) ⊎ (kind ≡ IPV6)
ip_cases kind true is found = inl (eqb-true kind IPV4 is)
ip_cases kind false is found = inr (eqb-true kind IPV6 found)

-- the two octets at this place
abbrev field : ℕ → List ℕ → List ℕ
field at frame = take 2 (drop at frame)

two_at : (at : ℕ) (frame : List ℕ) → at + 2 ≤ length frame → length (field at frame) ≡ 2
two_at at frame long = omega (arith, long, length-take 2 (drop at frame), length-drop at frame)

number_at : (at : ℕ) (frame : List ℕ) → big_number 2 (field at frame) ≡ big_number 2 (drop at frame)
number_at at frame = big_from-take 0 2 2 (drop at frame) (omega arith)

cut_at : (at : ℕ) (frame : List ℕ) → drop at frame ≡ field at frame ++ drop (at + 2) frame
cut_at at frame = sym (take-append-drop 2 (drop at frame)) ∙ ap (λ t. field at frame ++ t) (drop-drop 2 at frame)

ip_at : (at : ℕ) (frame : List ℕ) → at + 2 ≤ length frame → is_ip (big_number 2 (drop at frame)) ≡ true
    → IsIpType (field at frame)
ip_at at frame long is = (
  two_at at frame long,
  ip_cases (big_number 2 (field at frame)) (big_number 2 (field at frame) == IPV4) refl
      (ap is_ip (number_at at frame) ∙ is),
)

framed_here : (frame : List ℕ) → 14 ≤ length frame → is_ip (big_number 2 (drop 12 frame)) ≡ true
    → IsFramed frame (drop 14 frame)
framed_here frame long is = record {
  addresses = take 12 frame;
  kind = field 12 frame;
  twelve = omega (arith, long, length-take 12 frame);
  ip = ip_at 12 frame (omega (arith, long)) is;
  parts = sym (take-append-drop 12 frame) ∙ ap (λ t. take 12 frame ++ t) (cut_at 12 frame);
}

tagged_here : (frame : List ℕ) → 18 ≤ length frame → (big_number 2 (drop 12 frame) == VLAN_TAG) ≡ true
    → is_ip (big_number 2 (drop 16 frame)) ≡ true → IsTagged frame (drop 18 frame)
tagged_here frame long mark is = record {
  addresses = take 12 frame;
  mark = field 12 frame;
  tag = field 14 frame;
  kind = field 16 frame;
  twelve = omega (arith, long, length-take 12 frame);
  two = (two_at 12 frame (omega (arith, long)), two_at 14 frame (omega (arith, long)));
  tagged = number_at 12 frame ∙ eqb-true (big_number 2 (drop 12 frame)) VLAN_TAG mark;
  ip = ip_at 16 frame (omega (arith, long)) is;
  parts = sym (take-append-drop 12 frame) ∙ ap (λ t. take 12 frame ++ t) (cut_at 12 frame)
      ∙ ap (λ t. take 12 frame ++ (field 12 frame ++ t)) (cut_at 14 frame)
      ∙ ap (λ t. take 12 frame ++ (field 12 frame ++ (field 14 frame ++ t))) (cut_at 16 frame);
}

tag_without : (iface : ℕ) (frame : List ℕ) (short ip : Bool) → nat_lt (length frame) 18 ≡ short
    → is_ip (big_number 2 (drop 16 frame)) ≡ ip → (big_number 2 (drop 12 frame) == VLAN_TAG) ≡ true
    → ((packet : List ℕ) → HasPacket frame packet → ⊥)
    → record_behind iface (if short then None else if◌then◌else◌ {A = Option ℕ} ip (Some 18) None) frame ≡ []
tag_without iface frame true ip short_is ip_is mark without = refl
tag_without iface frame false true short_is ip_is mark without =
    absurd (without (drop 18 frame) (inr (tagged_here frame (ltb-false (length frame) 18 short_is) mark ip_is)))
tag_without iface frame false false short_is ip_is mark without = refl

type_without : (iface : ℕ) (frame : List ℕ) (ip mark : Bool) → 14 ≤ length frame
    → is_ip (big_number 2 (drop 12 frame)) ≡ ip → (big_number 2 (drop 12 frame) == VLAN_TAG) ≡ mark
    → ((packet : List ℕ) → HasPacket frame packet → ⊥)
    → record_behind iface (if ip then Some 14 else if◌then◌else◌ {A = Option ℕ} mark (tagged_offset frame) None) frame ≡ []
type_without iface frame true mark long ip_is mark_is without =
    absurd (without (drop 14 frame) (inl (framed_here frame long ip_is)))
type_without iface frame false true long ip_is mark_is without =
    tag_without iface frame (nat_lt (length frame) 18) (is_ip (big_number 2 (drop 16 frame))) refl refl mark_is without
type_without iface frame false false long ip_is mark_is without = refl

frame_without : (iface : ℕ) (frame : List ℕ) (short : Bool) → nat_lt (length frame) 14 ≡ short
    → ((packet : List ℕ) → HasPacket frame packet → ⊥)
    → record_behind iface (if short then None else typed_offset (big_number 2 (drop 12 frame)) frame) frame ≡ []
frame_without iface frame true is without = refl
frame_without iface frame false is without =
    type_without iface frame (is_ip (big_number 2 (drop 12 frame))) (big_number 2 (drop 12 frame) == VLAN_TAG)
    (ltb-false (length frame) 14 is) refl refl without

pub nothing_given : (iface : ℕ) (frame : List ℕ) → ((packet : List ℕ) → HasPacket frame packet → ⊥)
    → frame_record Ethernet iface frame ≡ []
nothing_given iface frame without = frame_without iface frame (nat_lt (length frame) 14) refl without

-- ---- the records of packets

packet_spelled : (iface : ℕ) (octets : List ℕ) → iface < 65536
    → SpellsPacket (packet_record iface octets) iface (take 60 octets)
packet_spelled iface octets within =
    let number = big_bytes 2 iface in
    let least = min (length octets) 60 in
    let count = big_bytes 2 least in
    record {
      number = number;
      count = count;
      two = (length-bytes_high_first 2 iface, length-bytes_high_first 2 least);
      iface_is = sym (ap (big_number 2) (sym (append-nil number))
          ∙ big_number-reads_back 2 iface [] (omega (arith, within)));
      count_is = omega (arith, length-take 60 octets)
          ∙ sym (ap (big_number 2) (sym (append-nil count)) ∙ big_number-reads_back 2 least [] (omega arith));
      parts = ap (λ t. PACKET ∷ t) (append_assoc number count (take 60 octets));
    }

record_spelled : (iface : ℕ) (offset : Option ℕ) (frame : List ℕ) → iface < 65536
    → SpellsAll SpellsRecord (record_behind iface offset frame) (packets_behind iface offset frame)
record_spelled iface None frame within = refl
record_spelled iface (Some offset) frame within = (
  [],
  record {
    one = packet_record iface (drop offset frame);
    spelled = packet_spelled iface (drop offset frame) within;
    parts = sym (append-nil (packet_record iface (drop offset frame)));
  },
  refl,
)

frames_spelled : (link : Link) (iface : ℕ) (frames : List (List ℕ)) → iface < 65536
    → SpellsAll SpellsRecord (flat_map (frame_record link iface) frames) (flat_map (packets_of link iface) frames)
frames_spelled link iface [] within = refl
frames_spelled link iface (frame ∷ frames) within =
    spells-append SpellsRecord (frame_record link iface frame) (flat_map (frame_record link iface) frames)
    (packets_of link iface frame) (flat_map (packets_of link iface) frames)
    (record_spelled iface (packet_offset link frame) frame within) (frames_spelled link iface frames within)

pub records_given : (link : Link) (iface : ℕ) (frames : List (List ℕ)) → iface < 65536
    → records_in (flat_map (frame_record link iface) frames) ≡ flat_map (packets_of link iface) frames
records_given link iface frames within =
    records_whole (flat_map (frame_record link iface) frames) (flat_map (packets_of link iface) frames)
    (frames_spelled link iface frames within)
