use Rattle.std.proofs.Common.{◌≡◌, ◌+◌, ◌-◌, ◌≤◌, [], length}
use Rattle.mrt_feed.specs.Places.{IsBetween, Ran}
use Rattle.feed_io.specs.declared.limited.TheConstants as limit
use Rattle.mrt_feed.proofs.feed.find.Given as goal

abbrev pub invariant-loop-whole : goal.invariant-loop-whole
invariant-loop-whole g l = record {
  between : IsBetween l.place;
  ran : Ran l.fn.peer (g.S.Source.left l.initial.input.source) l.initial.input.taken l.initial.place
      (g.S.Source.left l.input.source) l.input.taken l.place [];
  grows : l.initial.input.taken ≤ l.input.taken;
  kept : g.S.Source.faults l.input.source ≡ g.S.Source.faults l.initial.input.source;
}

abbrev pub decreases-loop-whole : goal.decreases-loop-whole
decreases-loop-whole g l = limit.FILE_OCTETS - l.input.taken + length l.place.head
