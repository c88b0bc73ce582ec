use Rattle.std.proofs.Common.{◌≡◌, ◌==◌, false, length, ap, sym, ◌∙◌, arith}
use Rattle.std.proofs.lemmas.Bool.{eqb-false}
use Rattle.pcap_packets.proofs.Parts.{record_end}
use Rattle.pcap_packets.proofs.part.Part.end.Goals as goal

pub returns-else-is_empty-clause-off : goal.returns-else-is_empty-clause-off
returns-else-is_empty-clause-off c iface =
    let some : (length c.octets.result.now == 0) ≡ false = sym c.is_empty.ensures ∙ c.if-is_empty.false in
    record_end iface c.args.self.now c.in-RecordHeader.field-0 c.in-RecordHeader.is c.requires
    (omega (arith, eqb-false (length c.octets.result.now) 0 some, ap length c.octets.ensures.octets))
