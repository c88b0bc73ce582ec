use Rattle.pcap_packets.proofs.Moving.{fails_so, gives_next, goes_on}
use Rattle.pcap_packets.proofs.packets.PcapPacketsPacketSource.read.Goals as goal

pub returns-in-Ok-clause-octets : goal.returns-in-Ok-clause-octets
returns-in-Ok-clause-octets g c =
    let old = c.self.inside in
    let new = c.fill.new in
    rw (← c.self.view_is)
    (gives_next (Unit {0}) old.iface (g.S.Source.left old.input.source) (g.S.Source.left new.input.source)
    old.input.taken new.input.taken c.give.result old.part new.part old.pending new.pending c.give.new.self
    c.give.new.buf c.fill.ensures.moved c.in-Ok.ensures.unfinished c.give.ensures.octets c.give.ensures.count
    c.in-Ok.ensures.ended)

pub returns-in-Ok-clause-stops : goal.returns-in-Ok-clause-stops
returns-in-Ok-clause-stops g c =
    let old = c.self.inside in
    let new = c.fill.new in
    rw (← c.self.view_is)
    (goes_on old.iface (g.S.Source.left old.input.source) (g.S.Source.left new.input.source) old.input.taken
    new.input.taken old.part new.part old.pending new.pending c.fill.ensures.moved c.in-Ok.ensures.ended
    c.in-Ok.ensures.within c.in-Ok.ensures.well)

pub returns-clause-failed : goal.returns-clause-failed
returns-clause-failed g c =
    let old = c.self.inside in
    let new = c.fill.new in
    rw (← c.self.view_is)
    (fails_so _ _ old.iface (g.S.Source.left old.input.source) (g.S.Source.left new.input.source) old.input.taken
    new.input.taken old.part new.part old.pending new.pending c.fill.ensures.moved c.in_default.ensures.nothing
    c.in_default.ensures.failed)
