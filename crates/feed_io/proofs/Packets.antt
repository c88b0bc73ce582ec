-- Which record a text begins with, and what is left behind it.
use Rattle.std.proofs.Common.{◌≡◌, ℕ, ◌<◌, ◌≤◌, Bool, true, false, ◌==◌, nat_lt, if◌then◌else◌, List, [], ◌∷◌, ◌++◌}
use Rattle.std.proofs.Common.{length, take, drop, Option, Some, None, refl, ap, sym, ◌∙◌, append_assoc, append-nil, length-append}
use Rattle.std.proofs.Common.{length-drop, arith, le-ltb}
use Rattle.std.proofs.Math.Seq.{take-append_seam, drop-append_seam}
use Rattle.byteorder.specs.Endian.{big_number}
use Rattle.urpf_base.specs.Series.{Begins, SpellsAll}
use Rattle.urpf_base.proofs.Series.{Shortens, values_in-found}
use Rattle.feed_io.specs.Packets.{PacketRecord, packet, marker, octets_front, packet_front, record_front, records_in}
use Rattle.feed_io.specs.Packets.{BeginsWith, SpellsRecord}
use Rattle.feed_io.specs.declared.packet_source.TheConstants.{PACKET, MARKER}
use Rattle.feed_io.proofs.Fronts.{behind}
use Rattle.feed_io.proofs.TraceFeeds.{none_is_not}

-- ---- what is left behind a record is shorter

octets_shorten : (iface count : ℕ) (text rest : List ℕ) (r : PacketRecord) (short : Bool)
    → (if◌then◌else◌ {A = Option (PacketRecord × List ℕ)} short None (Some (packet iface (take count text), drop count text)))
    ≡ Some (r, rest)
    → length rest ≤ length text
octets_shorten iface count text rest r true found = absurd cc
octets_shorten iface count text rest r false found =
    omega (arith, ap length (behind _ r (drop count text) rest found), length-drop count text)

packet_shortens : (text rest : List ℕ) (r : PacketRecord) (short : Bool)
    → (if short then None else octets_front (big_number 2 text) (big_number 2 (drop 2 text)) (drop 4 text)) ≡ Some (r, rest)
    → length rest ≤ length text
packet_shortens text rest r true found = absurd cc
packet_shortens text rest r false found =
    let n = big_number 2 (drop 2 text) in
    omega (
      arith,
      octets_shorten (big_number 2 text) n (drop 4 text) rest r (nat_lt (length (drop 4 text)) n) found,
      length-drop 4 text,
    )

coded_shortens : (text rest : List ℕ) (r : PacketRecord) (is_packet is_marker : Bool)
    → (if is_packet then packet_front text else if◌then◌else◌ {A = Option (PacketRecord × List ℕ)} is_marker (Some (marker, text)) None)
    ≡ Some (r, rest)
    → length rest ≤ length text
coded_shortens text rest r true is_marker found = packet_shortens text rest r (nat_lt (length text) 4) found
coded_shortens text rest r false true found = omega (arith, ap length (behind marker r text rest found))
coded_shortens text rest r false false found = absurd cc

pub record_shortens : Shortens record_front
record_shortens [] rest r found = absurd cc
record_shortens (code ∷ text) rest r found =
    omega (arith, coded_shortens text rest r (code == PACKET) (code == MARKER) found)

-- the records of a text are the first and those behind it
pub records_found : (text rest : List ℕ) (r : PacketRecord) → record_front text ≡ Some (r, rest)
    → records_in text ≡ r ∷ records_in rest
records_found text rest r found = values_in-found record_front record_shortens text rest r found

-- ---- a record that is spelled is found

octets_found : (iface count : ℕ) (octets rest : List ℕ) → length octets ≡ count
    → octets_front iface count (octets ++ rest) ≡ Some (packet iface octets, rest)
octets_found iface count octets rest len =
    ap (λ n. octets_front iface n (octets ++ rest)) (sym len)
    ∙ ap (λ b. if b then None else Some (packet iface (take (length octets) (octets ++ rest)), drop (length octets) (octets ++ rest)))
    (le-ltb (length (octets ++ rest)) (length octets) (omega (arith, length-append octets rest)))
    ∙ ap (λ t. Some (packet iface t, drop (length octets) (octets ++ rest))) (take-append_seam octets rest)
    ∙ ap (λ t. Some (packet iface octets, t)) (drop-append_seam octets rest)

packet_found : (number count octets rest : List ℕ) (iface : ℕ) → length number ≡ 2 → length count ≡ 2
    → iface ≡ big_number 2 number → length octets ≡ big_number 2 count
    → packet_front ((number ++ (count ++ octets)) ++ rest) ≡ Some (packet iface octets, rest)
packet_found [] count octets rest iface two too is len = absurd (omega (arith, two))
packet_found (a ∷ []) count octets rest iface two too is len = absurd (omega (arith, two))
packet_found (a ∷ b ∷ x ∷ number) count octets rest iface two too is len = absurd (omega (arith, two))
packet_found (a ∷ b ∷ []) [] octets rest iface two too is len = absurd (omega (arith, too))
packet_found (a ∷ b ∷ []) (c ∷ []) octets rest iface two too is len = absurd (omega (arith, too))
packet_found (a ∷ b ∷ []) (c ∷ d ∷ x ∷ count) octets rest iface two too is len = absurd (omega (arith, too))
packet_found (a ∷ b ∷ []) (c ∷ d ∷ []) octets rest iface two too is len =
    let text = a ∷ b ∷ c ∷ d ∷ octets ++ rest in
    ap (λ s. if s then None else octets_front (big_number 2 text) (big_number 2 (drop 2 text)) (drop 4 text))
    (le-ltb (length text) 4 (omega arith))
    ∙ ap (λ i. octets_front i (big_number 2 (c ∷ d ∷ [])) (octets ++ rest)) (sym is)
    ∙ octets_found iface (big_number 2 (c ∷ d ∷ [])) octets rest len

pub record_spelled : (one rest : List ℕ) (r : PacketRecord) → SpellsRecord one r
    → record_front (one ++ rest) ≡ Some (r, rest)
record_spelled one rest (packet iface octets) s =
    ap (λ t. record_front (t ++ rest)) s.parts
    ∙ packet_found s.number s.count octets rest iface s.two.0 s.two.1 s.iface_is s.count_is
record_spelled one rest marker s = ap (λ t. record_front (t ++ rest)) s

-- ---- records that are spelled one after the other

pub records_begin : (text rest : List ℕ) (records : List PacketRecord) → SpellsAll SpellsRecord text records
    → BeginsWith (text ++ rest) records rest
records_begin text rest [] spelled = ap (λ t. t ++ rest) spelled
records_begin text rest (r ∷ records) spelled =
    let b = spelled.1 in (
      spelled.0 ++ rest,
      (ap (λ t. record_front (t ++ rest)) b.parts ∙ ap record_front (append_assoc b.one spelled.0 rest)
          ∙ record_spelled b.one (spelled.0 ++ rest) r b.spelled),
      records_begin spelled.0 rest records spelled.2,
    )

pub records_then : (text rest : List ℕ) (records : List PacketRecord) → BeginsWith text records rest
    → records_in text ≡ records ++ records_in rest
records_then text rest [] begins = ap records_in begins
records_then text rest (r ∷ records) begins =
    records_found text begins.0 r begins.1 ∙ ap (λ rs. r ∷ rs) (records_then begins.0 rest records begins.2)

pub records_whole : (text : List ℕ) (records : List PacketRecord) → SpellsAll SpellsRecord text records
    → records_in text ≡ records
records_whole text records spelled =
    ap records_in (sym (append-nil text)) ∙ records_then (text ++ []) [] records (records_begin text [] records spelled)
    ∙ append-nil records

pub record_is_on : (text rest : List ℕ) (r : PacketRecord) → Begins SpellsRecord text r rest
    → record_front text ≡ None → ⊥
record_is_on text rest r b none =
    none_is_not (r, rest) (record_front text) (ap record_front b.parts ∙ record_spelled b.one rest r b.spelled) none
