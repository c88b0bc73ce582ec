use Rattle.std.proofs.Common.{◌≡◌, ◌+◌, ◌-◌, ◌≤◌, [], length}
use Rattle.urpf_base.specs.declared.address.Addr.{Addr}
use Rattle.mrt_feed.specs.Places.{IsAtRecord, Ran}
use Rattle.feed_io.specs.declared.limited.TheConstants as limit
use Rattle.mrt_feed.proofs.feed.fill.Given as goal

abbrev pub invariant-loop-input : goal.invariant-loop-input
invariant-loop-input g l = record {
  start : IsAtRecord l.place;
  ran : (peer : Addr) → Ran peer (g.S.Source.left l.initial.input.source) l.initial.input.taken l.initial.place
      (g.S.Source.left l.input.source) l.input.taken l.place [];
  room : limit.FILE_OCTETS - l.input.taken + length l.place.head
      ≤ limit.FILE_OCTETS - l.initial.input.taken + length l.initial.place.head;
  grows : l.initial.input.taken ≤ l.input.taken;
  kept : g.S.Source.faults l.input.source ≡ g.S.Source.faults l.initial.input.source;
}

abbrev pub decreases-loop-input : goal.decreases-loop-input
decreases-loop-input g l = 80 - length l.place.head
