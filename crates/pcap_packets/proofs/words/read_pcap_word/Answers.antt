use Rattle.std.proofs.Common.{◌≡◌, ◌==◌, true, None, Some, ap, sym, length, ◌∙◌, arith, decimal, eqb-true}
use Rattle.pcap_packets.proofs.PcapWords.{iface_lacks, same_spec}
use Rattle.pcap_packets.proofs.words.read_pcap_word.Goals as goal

pub returns-in_default-cut-clause-only : goal.returns-in_default-cut-clause-only
returns-in_default-cut-clause-only c spec is =
    absurd (c.in_default-cut.ensures.only (decimal spec.iface) is.file (iface_lacks spec.iface is.iface)
    (c.in-Some.ensures.only _ is.parts))

pub returns-in_default-read_number-clause-only : goal.returns-in_default-read_number-clause-only
returns-in_default-read_number-clause-only c spec is =
    let cut = c.in-Some-cut.ensures.only (decimal spec.iface) is.file (iface_lacks spec.iface is.iface)
    (c.in-Some.ensures.only _ is.parts) in
    let read : None ≡ Some spec.iface = c.in_default-read_number.ensures.only spec.iface is.iface cut.0 in
    cc

pub returns-then-is_empty-clause-only : goal.returns-then-is_empty-clause-only
returns-then-is_empty-clause-only c spec is =
    let cut = c.in-Some-cut.ensures.only (decimal spec.iface) is.file (iface_lacks spec.iface is.iface)
    (c.in-Some.ensures.only _ is.parts) in
    let none : (length c.in-Some-cut.file.now == 0) ≡ true = sym c.is_empty.ensures ∙ c.if-is_empty.true in
    absurd (omega (arith, is.some, ap length cut.1, eqb-true (length c.in-Some-cut.file.now) 0 none))

pub returns-clause-only : goal.returns-clause-only
returns-clause-only c spec is =
    let cut = c.in-Some-cut.ensures.only (decimal spec.iface) is.file (iface_lacks spec.iface is.iface)
    (c.in-Some.ensures.only _ is.parts) in
    same_spec spec _ _ (c.in-Some-read_number.ensures.only spec.iface is.iface cut.0)
    (omega (arith, is.from, ap length cut.1))
