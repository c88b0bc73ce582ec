use Rattle.std.proofs.Common.{◌≡◌, ◌≤◌, ◌-◌, length}
use Rattle.feed_io.specs.TraceFeeds.{Moved}
use Rattle.feed_io.proofs.traces.fill.Given as goal

abbrev pub invariant-loop-piece : goal.invariant-loop-piece
invariant-loop-piece g l = record {
  moved : Moved (g.S.Source.left l.initial.input.source) l.initial.input.taken l.initial.head
      (g.S.Source.left l.input.source) l.input.taken l.head;
  grows : l.initial.input.taken ≤ l.input.taken;
  kept : g.S.Source.faults l.input.source ≡ g.S.Source.faults l.initial.input.source;
}

abbrev pub decreases-loop-piece : goal.decreases-loop-piece
decreases-loop-piece g l = 5 - length l.head
