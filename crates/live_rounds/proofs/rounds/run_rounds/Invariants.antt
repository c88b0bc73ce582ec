use Rattle.std.proofs.Common.{◌-◌, ◌≤◌, length, map}
use Rattle.std.specs.List.{AllByRecursion}
use Rattle.live_rounds.specs.Parts.{IsSound, slots_in}
use Rattle.live_rounds.specs.Rounds.{stage}
use Rattle.live_rounds.specs.Seats.{identity_of, list_of, opening_of}
use Rattle.live_rounds.specs.Stations.{IsReady, station_of}
use Rattle.live_rounds.proofs.Joining.{AreRun}
use Rattle.live_rounds.proofs.rounds.run_rounds.Given as goal

-- the lines so far are rounds that were run, and the next one can be
abbrev pub invariant-loop-upto : goal.invariant-loop-upto
invariant-loop-upto g l = record {
  within : l.from ≤ length l.book;
  ready : g.C.Part.ready l.book l.from (length l.feeds.items) (g.C.Part.state l.part);
  sound : IsSound g.J.Naming.opening (g.C.Part.state l.part);
  workers : AllByRecursion
      (IsReady identity_of opening_of list_of g.P.PacketSource.left g.J.Naming.opening
      (g.C.Part.state l.part).batches)
      l.workers;
  few : length l.workers ≤ 32;
  run : AreRun g.C.Part.ran g.J.Naming.opening l.book l.from
      (stage (g.C.Part.state l.initial.part)
      (slots_in (λ b. (goal.Feed-dyn g (b.vtable, b.value)).left b.value) l.initial.feeds.items)
      (g.K.Sink.held l.initial.out) (map (station_of g.P.PacketSource.left) l.initial.workers))
      (stage (g.C.Part.state l.part) (slots_in (λ b. (goal.Feed-dyn g (b.vtable, b.value)).left b.value) l.feeds.items)
      (g.K.Sink.held l.out) (map (station_of g.P.PacketSource.left) l.workers));
}

abbrev pub decreases-loop-upto : goal.decreases-loop-upto
decreases-loop-upto g l = length l.book - l.from
