use Rattle.std.proofs.Common.{[]}
use Rattle.pcap_packets.proofs.Moving.{moved_on}
use Rattle.pcap_packets.proofs.packets.step.Goals as goal

pub returns-in_ok-finish-clause-moved : goal.returns-in_ok-finish-clause-moved
returns-in_ok-finish-clause-moved g c =
    let read = c.take_piece.new in
    rw c.requires.sent
    (moved_on c.args.iface (g.S.Source.left c.args.input.now.source) (g.S.Source.left read.input.source)
    c.args.input.now.taken read.input.taken c.args.part.now read.part c.finish.new.self [] [] c.finish.new.unsent
    (c.in_ok-count.ensures.moved c.args.iface []) c.in_ok-finish.ensures.reads)
