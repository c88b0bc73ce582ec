use Rattle.std.proofs.Common.{◌≡◌, [], None, Some, ap, sym, subst, ◌∙◌}
use Rattle.pcap_packets.specs.Formats.{format_of}
use Rattle.pcap_packets.specs.Reading.{IsOff, Reads, part_of}
use Rattle.pcap_packets.specs.declared.part.Part.{Part}
use Rattle.pcap_packets.specs.declared.part.Stage.TheVariants.{FileHeader, RecordHeader}
use Rattle.pcap_packets.proofs.Parts.{header_off, header_read, staged}
use Rattle.pcap_packets.proofs.part.Part.end_file_header.Goals as goal

pub returns-in_default-clause-off : goal.returns-in_default-clause-off
returns-in_default-clause-off c iface text =
    let part = c.args.self.now in
    let says : format_of part.front ≡ None =
    ap format_of (sym c.octets.ensures.octets) ∙ sym c.read_format.ensures ∙ c.in_default.is in
    subst (λ (p : Part). IsOff iface p text) (sym (staged part FileHeader c.requires.stage))
    (header_off iface part.front text part.missing c.requires.whole says)

pub returns-clause-reads : goal.returns-clause-reads
returns-clause-reads c iface =
    let part = c.args.self.now in
    let says : format_of part.front ≡ Some c.in-Some.format =
    ap format_of (sym c.octets.ensures.octets) ∙ sym c.read_format.ensures ∙ c.in-Some.is in
    rw c.new.ensures
    (subst (λ (p : Part). Reads iface p [] [] (part_of (RecordHeader c.in-Some.format) [] 16) [])
    (sym (staged part FileHeader c.requires.stage))
    (header_read iface c.in-Some.format part.front [] part.missing c.requires.whole says))
