use Rattle.std.proofs.Common.{subst, sym}
use Rattle.std.specs.List.{AllByRecursion}
use Rattle.forward_worker.specs.declared.desk.Stop.TheVariants as stop
use Rattle.live_rounds.specs.Seats.{identity_of, list_of, opening_of}
use Rattle.live_rounds.specs.Stations.{IsFit, IsReady}
use Rattle.live_rounds.proofs.Working.{all_of, all_ready}
use Rattle.live_rounds.proofs.Ending.{on_both, on_ok, round_then}
use Rattle.live_rounds.proofs.rounds.run_round.Goals as goal

pub run_beside-requires-clause-fit : goal.run_beside-requires-clause-fit
run_beside-requires-clause-fit g c κs lives =
    all_of
    (IsReady identity_of opening_of list_of g.P.PacketSource.left g.J.Naming.opening
    (g.C.Part.state c.args.part.now).batches)
    (λ w. IsFit w) (λ w ready. ready.0) c.args.workers.now c.requires.workers

pub returns-clause-ran : goal.returns-clause-ran
returns-clause-ran g c =
    on_both c.write_all.result
    (λ wrote fine.
    round_then identity_of opening_of list_of g.P.PacketSource.left g.C.Part.ran
    g.J.Naming.opening c.args.book.now c.args.from c.args.upto _ _ _ _ _ _ _ _ _ _ _ _ _ _ c.requires.range.0
    c.requires.ends c.requires.others c.in_default.ensures.ran c.in_default-run.ensures.ran c.in_default.ensures.grows
    c.in_default-run.ensures.grows c.settle_all.ensures.same c.requires.workers c.run_beside.ensures.worked
    c.settle_all.ensures.settled fine wrote)
    c.write_all.ensures.wrote c.write_all.ensures.fine

pub returns-clause-workers : goal.returns-clause-workers
returns-clause-workers g c =
    on_ok c.write_all.result
    (λ fine.
    subst
    (λ state.
    AllByRecursion
    (IsReady identity_of opening_of list_of g.P.PacketSource.left g.J.Naming.opening
    state.batches)
    c.settle_all.new.workers)
    (sym c.settle_all.ensures.same)
    (all_ready identity_of opening_of list_of g.P.PacketSource.left stop.Marker
    g.J.Naming.opening (g.C.Part.state c.args.part.now).batches (g.C.Part.state c.run.new.self).batches
    c.args.workers.now c.run_beside.new.workers c.settle_all.new.workers c.run_beside.ensures.worked
    c.settle_all.ensures.settled c.requires.workers))
    c.write_all.ensures.fine
