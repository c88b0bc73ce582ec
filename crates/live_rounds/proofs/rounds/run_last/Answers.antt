use Rattle.std.proofs.Common.{length, slice_range}
use Rattle.forward_worker.specs.declared.desk.Stop.TheVariants as stop
use Rattle.live_rounds.specs.Seats.{identity_of, list_of, opening_of}
use Rattle.live_rounds.specs.Stations.{IsFit, IsReady}
use Rattle.live_rounds.proofs.Working.{all_of, all_ready, all_told, each_of}
use Rattle.live_rounds.proofs.Ending.{last_then}
use Rattle.live_rounds.proofs.rounds.run_last.Goals as goal

pub work_all-requires-clause-fit : goal.work_all-requires-clause-fit
work_all-requires-clause-fit g c κs lives =
    all_of
    (IsReady identity_of opening_of list_of g.P.PacketSource.left g.J.Naming.opening
    (g.C.Part.state c.run.new.self).batches)
    (λ w. IsFit w) (λ w ready. ready.0) c.settle_all.new.workers
    (all_told identity_of opening_of list_of g.P.PacketSource.left g.J.Naming.opening
    (g.C.Part.state c.args.part.now).batches (g.C.Part.state c.run.new.self).batches c.args.workers.now
    c.settle_all.new.workers c.settle_all.ensures.settled c.requires.workers)

pub end-requires-clause-fit : goal.end-requires-clause-fit
end-requires-clause-fit g c =
    each_of
    (IsReady identity_of opening_of list_of g.P.PacketSource.left g.J.Naming.opening
    (g.C.Part.state c.settle_all.new.part).batches)
    (λ w. IsFit w) (λ w ready. ready.0) c.settle_all-2.new.workers
    (all_ready identity_of opening_of list_of g.P.PacketSource.left stop.End
    g.J.Naming.opening (g.C.Part.state c.run.new.self).batches (g.C.Part.state c.settle_all.new.part).batches
    c.settle_all.new.workers c.work_all.new.workers c.settle_all-2.new.workers c.work_all.ensures
    c.settle_all-2.ensures.settled
    (all_told identity_of opening_of list_of g.P.PacketSource.left g.J.Naming.opening
    (g.C.Part.state c.args.part.now).batches (g.C.Part.state c.run.new.self).batches c.args.workers.now
    c.settle_all.new.workers c.settle_all.ensures.settled c.requires.workers))

pub returns-in-Ok : goal.returns-in-Ok
returns-in-Ok g c = record {
  ran = last_then identity_of opening_of list_of g.P.PacketSource.left g.C.Part.ran
      g.J.Naming.opening (slice_range c.args.book.now c.args.from (length c.args.book.now)) _ _ _ _ _ _ _ _ _ _ _ _ _ _
      c.requires.others (rw c.len.ensures at c.in_default.ensures.ran) c.settle_all.ensures.same
      c.settle_all-2.ensures.same c.requires.workers c.settle_all.ensures.settled c.work_all.ensures
      c.settle_all-2.ensures.settled c.in_default-write_all.ensures.fine c.in_default-write_all.ensures.wrote
      c.in-Ok.ensures;
}
