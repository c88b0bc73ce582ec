-- What stands behind the first 78 octets of a frame does not count for its record.
use Rattle.std.proofs.Common.{◌≡◌, ℕ, ◌+◌, ◌≤◌, Bool, true, false, ◌==◌, nat_lt, min, if◌then◌else◌, List, ◌∷◌}
use Rattle.std.proofs.Common.{◌++◌, length, take, drop, Option, Some, None, refl, ap, sym, ◌∙◌, length-append, length-drop}
use Rattle.std.proofs.Common.{arith, le-ltb, ltb-false}
use Rattle.std.proofs.lemmas.Bool.{ltb-true}
use Rattle.std.proofs.lemmas.List.{take_all, take-append-le, drop-append-le}
use Rattle.byteorder.specs.Endian.{big_number, big_bytes}
use Rattle.byteorder.specs.Numbers.{big_from-append}
use Rattle.feed_io.specs.declared.packet_source.TheConstants.{PACKET}
use Rattle.pcap_packets.specs.Frames.{is_ip, tagged_offset, typed_offset, ethernet_offset, packet_offset, packet_record}
use Rattle.pcap_packets.specs.Frames.{record_behind, frame_record}
use Rattle.pcap_packets.specs.declared.formats.Link.{Link}
use Rattle.pcap_packets.specs.declared.formats.Link.TheVariants.{Ethernet, Raw}
use Rattle.pcap_packets.specs.declared.frames.TheConstants.{VLAN_TAG}

pub field_same : (at : ℕ) (front more : List ℕ) → at + 2 ≤ length front
    → big_number 2 (drop at (front ++ more)) ≡ big_number 2 (drop at front)
field_same at front more long =
    ap (big_number 2) (drop-append-le at front more (omega (arith, long)))
    ∙ big_from-append 2 (drop at front) more (omega (arith, long, length-drop at front))

pub tagged_long : (frame : List ℕ) → 18 ≤ length frame
    → tagged_offset frame ≡ (if is_ip (big_number 2 (drop 16 frame)) then Some 18 else None)
tagged_long frame long =
    ap (λ b. if b then None else if is_ip (big_number 2 (drop 16 frame)) then Some 18 else None)
    (le-ltb (length frame) 18 long)

pub ethernet_long : (frame : List ℕ) → 14 ≤ length frame
    → ethernet_offset frame ≡ typed_offset (big_number 2 (drop 12 frame)) frame
ethernet_long frame long =
    ap (λ b. if b then None else typed_offset (big_number 2 (drop 12 frame)) frame) (le-ltb (length frame) 14 long)

tagged_same : (front more : List ℕ) → 18 ≤ length front → tagged_offset (front ++ more) ≡ tagged_offset front
tagged_same front more long =
    tagged_long (front ++ more) (omega (arith, long, length-append front more))
    ∙ ap (λ n. if is_ip n then Some 18 else None) (field_same 16 front more (omega (arith, long)))
    ∙ sym (tagged_long front long)

offset_same : (link : Link) (front more : List ℕ) → 18 ≤ length front
    → packet_offset link (front ++ more) ≡ packet_offset link front
offset_same Ethernet front more long =
    ethernet_long (front ++ more) (omega (arith, long, length-append front more))
    ∙ ap (λ n. typed_offset n (front ++ more)) (field_same 12 front more (omega (arith, long)))
    ∙ ap (λ o. if is_ip (big_number 2 (drop 12 front)) then Some 14 else
    if big_number 2 (drop 12 front) == VLAN_TAG then o else None) (tagged_same front more long)
    ∙ sym (ethernet_long front (omega (arith, long)))
offset_same Raw front more long = refl

-- ---- no more than 18 octets stand before a packet

abbrev Small : Option ℕ → Type 0
Small None = Unit {0}
Small (Some offset) = offset ≤ 18

tagged_small : (short ip : Bool) → Small (if short then None else if◌then◌else◌ {A = Option ℕ} ip (Some 18) None)
tagged_small true ip = tt
tagged_small false true = omega arith
tagged_small false false = tt

typed_small : (ip tag : Bool) (frame : List ℕ)
    → Small (if ip then Some 14 else if◌then◌else◌ {A = Option ℕ} tag (tagged_offset frame) None)
typed_small true tag frame = omega arith
typed_small false true frame = tagged_small (nat_lt (length frame) 18) (is_ip (big_number 2 (drop 16 frame)))
typed_small false false frame = tt

ethernet_small : (short : Bool) (kind : ℕ) (frame : List ℕ) → Small (if short then None else typed_offset kind frame)
ethernet_small true kind frame = tt
ethernet_small false kind frame = typed_small (is_ip kind) (kind == VLAN_TAG) frame

offset_small : (link : Link) (frame : List ℕ) → Small (packet_offset link frame)
offset_small Ethernet frame = ethernet_small (nat_lt (length frame) 14) (big_number 2 (drop 12 frame)) frame
offset_small Raw frame = omega arith

-- ---- the record

packet_same : (iface : ℕ) (xs more : List ℕ) → 60 ≤ length xs → packet_record iface (xs ++ more) ≡ packet_record iface xs
packet_same iface xs more long =
    let count : min (length (xs ++ more)) 60 ≡ min (length xs) 60 = omega (arith, long, length-append xs more) in
    ap (λ n. (PACKET ∷ big_bytes 2 iface ++ big_bytes 2 n) ++ take 60 (xs ++ more)) count
    ∙ ap (λ t. (PACKET ∷ big_bytes 2 iface ++ big_bytes 2 (min (length xs) 60)) ++ t) (take-append-le 60 xs more long)

behind_same : (iface : ℕ) (o : Option ℕ) (front more : List ℕ) → Small o → 78 ≤ length front
    → record_behind iface o (front ++ more) ≡ record_behind iface o front
behind_same iface None front more small long = refl
behind_same iface (Some offset) front more small long =
    ap (packet_record iface) (drop-append-le offset front more (omega (arith, small, long)))
    ∙ packet_same iface (drop offset front) more (omega (arith, small, long, length-drop offset front))

pub record-front : (link : Link) (iface : ℕ) (front more : List ℕ) → 78 ≤ length front
    → frame_record link iface (front ++ more) ≡ frame_record link iface front
record-front link iface front more long =
    ap (λ o. record_behind iface o (front ++ more)) (offset_same link front more (omega (arith, long)))
    ∙ behind_same iface (packet_offset link front) front more (offset_small link front) long

-- ---- a front that may be the whole

least_of : (n : ℕ) (xs : List ℕ) (more : Bool) → nat_lt n (length xs) ≡ more → take (min (length xs) n) xs ≡ take n xs
least_of n xs true is =
    let all : min (length xs) n ≡ n = omega (arith, ltb-true n (length xs) is) in
    ap (λ k. take k xs) all
least_of n xs false is =
    let all : min (length xs) n ≡ length xs = omega (arith, ltb-false n (length xs) is) in
    ap (λ k. take k xs) all ∙ take_all (length xs) xs (omega arith)
    ∙ sym (take_all n xs (ltb-false n (length xs) is))

pub take_least : (n : ℕ) (xs : List ℕ) → take (min (length xs) n) xs ≡ take n xs
take_least n xs = least_of n xs (nat_lt n (length xs)) refl
