use Rattle.std.proofs.Common.{◌≡◌, ◌≤◌, []}
use Rattle.urpf_base.specs.declared.address.Addr.{Addr}
use Rattle.mrt_feed.specs.Places.{IsBetween, Ran}
use Rattle.mrt_feed.proofs.feed.pass_over.Given as goal

abbrev pub invariant-loop-place : goal.invariant-loop-place
invariant-loop-place g l = record {
  between : IsBetween l.place;
  ran : (peer : Addr) → Ran peer (g.S.Source.left l.initial.input.source) l.initial.input.taken l.initial.place
      (g.S.Source.left l.input.source) l.input.taken l.place [];
  head : l.place.head ≡ l.initial.place.head;
  grows : l.initial.input.taken ≤ l.input.taken;
  kept : g.S.Source.faults l.input.source ≡ g.S.Source.faults l.initial.input.source;
}

abbrev pub decreases-loop-place : goal.decreases-loop-place
decreases-loop-place g l = l.place.skip
