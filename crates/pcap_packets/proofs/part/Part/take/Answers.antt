use Rattle.std.proofs.Common.{◌-◌, length, ap, arith}
use Rattle.pcap_packets.proofs.Parts.{part_grows, part_passes}
use Rattle.pcap_packets.proofs.part.Part.take.Goals as goal

pub returns-then-octets-ge-FRONT_OCTETS-clause-reads : goal.returns-then-octets-ge-FRONT_OCTETS-clause-reads
returns-then-octets-ge-FRONT_OCTETS-clause-reads c iface unsent =
    let part = c.args.self.now in
    part_passes iface part.stage part.front c.args.piece.now unsent part.missing
    (part.missing - length c.args.piece.now) (omega (arith, c.requires.missing)) c.requires.fits
    (omega (arith, c.if-octets-ge-FRONT_OCTETS.true, ap length c.octets.ensures.octets))

pub returns-clause-reads : goal.returns-clause-reads
returns-clause-reads c iface unsent =
    let part = c.args.self.now in
    rw c.append.ensures
    (part_grows iface part.stage part.front c.args.piece.now unsent part.missing
    (part.missing - length c.args.piece.now) (omega (arith, c.requires.missing)))
