use Rattle.std.proofs.Common.{◌≡◌, ◌-◌, ◌+◌, List, false}
use Rattle.feed_io.specs.Events.{Event}
use Rattle.session_fsm.specs.declared.items.Effect.{Effect}
use Rattle.control_core.specs.EngineRows.{HasSession, RowsFollow}
use Rattle.control_core.specs.History.{StandsFor}
use Rattle.control_core.specs.Peers.{peer_of}
use Rattle.control_core.specs.Pulls.{StaysWithin, TakesAtMost}
use Rattle.control_core.proofs.PullLaws.{SoFar}
use Rattle.control_core.proofs.pulling.pull_items.Given as goal

abbrev pub invariant-loop-alloc : goal.invariant-loop-alloc
invariant-loop-alloc g l = record {
  so_far : (events : List Event) (effects : List Effect) → StandsFor events effects (peer_of l.initial.peering)
      → SoFar l.initial.peering.number events effects (g.F.Feed.left l.initial.feed) (g.F.Feed.left l.feed)
      (g.K.Sink.held l.initial.out) (g.K.Sink.held l.out) (peer_of l.peering);
  unmet : l.peering.ended ≡ false;
  begun : l.begun ≡ l.initial.peering.session.items;
  most : TakesAtMost l.count (peer_of l.initial.peering) (peer_of l.peering);
  within : StaysWithin l.limits (peer_of l.initial.peering) (peer_of l.peering);
  feed : g.F.Feed.faults l.feed ≡ g.F.Feed.faults l.initial.feed;
  out : g.K.Sink.faults l.out ≡ g.K.Sink.faults l.initial.out;
  number : l.peering.number ≡ l.initial.peering.number;
  config : l.peering.session.config ≡ l.initial.peering.session.config;
  ready : HasSession l.peering.session.config.iface l.peering.rib l.sets;
  rows : RowsFollow l.initial.peering.session.config.iface l.initial.peering.rib l.peering.rib l.initial.sets l.sets;
}

abbrev pub decreases-loop-alloc : goal.decreases-loop-alloc
decreases-loop-alloc g l = l.limits.items - l.peering.session.items + (l.limits.octets - l.peering.octets)
