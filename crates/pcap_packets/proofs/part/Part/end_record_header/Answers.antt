use Rattle.std.proofs.Common.{◌≡◌, ◌-◌, ℕ, List, [], take, drop, length, ap, sym, subst, ◌∙◌, arith, length-drop}
use Rattle.std.proofs.lemmas.List.{take_all}
use Rattle.pcap_packets.specs.Formats.{number_in}
use Rattle.pcap_packets.specs.Reading.{IsOff, Reads, part_of}
use Rattle.pcap_packets.specs.declared.formats.Order.{Order}
use Rattle.pcap_packets.specs.declared.part.Part.{Part}
use Rattle.pcap_packets.specs.declared.part.Stage.TheVariants.{Frame, RecordHeader}
use Rattle.pcap_packets.proofs.Parts.{reads_then, record_off, record_read, staged}
use Rattle.pcap_packets.proofs.part.Part.end_record_header.Goals as goal

-- the octets from the eighth on are all that stand behind it
number_behind : (order : Order) (front octets : List ℕ) (count : ℕ) → octets ≡ front
    → count ≡ number_in order (take (length octets - 8) (drop 8 octets)) → count ≡ number_in order (drop 8 front)
number_behind order front octets count same is =
    is
    ∙ ap (number_in order) (take_all (length octets - 8) (drop 8 octets) (omega (arith, length-drop 8 octets)))
    ∙ ap (λ xs. number_in order (drop 8 xs)) same

pub returns-then-count-gt-CAPTURED_OCTETS-clause-off : goal.returns-then-count-gt-CAPTURED_OCTETS-clause-off
returns-then-count-gt-CAPTURED_OCTETS-clause-off c text =
    let part = c.args.self.now in
    let number = number_behind c.args.format.order part.front c.octets.result.now c.read_number-count.result
    c.octets.ensures.octets c.read_number-count.ensures in
    subst (λ (p : Part). IsOff c.args.iface p text) (sym (staged part (RecordHeader c.args.format) c.requires.stage))
    (record_off c.args.iface c.args.format part.front text part.missing c.requires.whole
    (omega (arith, number, c.if-count-gt-CAPTURED_OCTETS.true)))

pub returns-then-count-gt0-clause-reads : goal.returns-then-count-gt0-clause-reads
returns-then-count-gt0-clause-reads c =
    let part = c.args.self.now in
    let count = c.read_number-count.result in
    let number = number_behind c.args.format.order part.front c.octets.result.now count c.octets.ensures.octets
    c.read_number-count.ensures in
    rw (c.new.ensures, c.requires.sent)
    (subst (λ (p : Part). Reads c.args.iface p [] [] (part_of (Frame c.args.format) [] count) [])
    (sym (staged part (RecordHeader c.args.format) c.requires.stage))
    (record_read c.args.iface c.args.format part.front [] part.missing count c.requires.whole number
    c.if-count-gt-CAPTURED_OCTETS.false))

pub returns-clause-reads : goal.returns-clause-reads
returns-clause-reads c =
    let part = c.args.self.now in
    let count = c.read_number-count.result in
    let number = number_behind c.args.format.order part.front c.octets.result.now count c.octets.ensures.octets
    c.read_number-count.ensures in
    let first : Reads c.args.iface part [] [] c.new.result [] =
    rw c.new.ensures
    (subst (λ (p : Part). Reads c.args.iface p [] [] (part_of (Frame c.args.format) [] count) [])
    (sym (staged part (RecordHeader c.args.format) c.requires.stage))
    (record_read c.args.iface c.args.format part.front [] part.missing count c.requires.whole number
    c.if-count-gt-CAPTURED_OCTETS.false)) in
    reads_then first c.end_frame.ensures.reads
