use Rattle.std.proofs.Common.{◌≡◌, ◌≤◌, ◌-◌}
use Rattle.pcap_packets.specs.Reading.{IsUnfinished, Moved}
use Rattle.feed_io.specs.declared.limited.TheConstants.{FILE_OCTETS}
use Rattle.pcap_packets.proofs.packets.fill.Given as goal

abbrev pub invariant-loop-input : goal.invariant-loop-input
invariant-loop-input g l = record {
  moved : Moved l.iface (g.S.Source.left l.initial.input.source) l.initial.input.taken l.initial.part l.initial.pending
      (g.S.Source.left l.input.source) l.input.taken l.part l.pending;
  unfinished : IsUnfinished l.part;
  grows : l.initial.input.taken ≤ l.input.taken;
  kept : g.S.Source.faults l.input.source ≡ g.S.Source.faults l.initial.input.source;
}

abbrev pub decreases-loop-input : goal.decreases-loop-input
decreases-loop-input g l = FILE_OCTETS - l.input.taken
