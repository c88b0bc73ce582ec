use Rattle.std.proofs.Common.{arith}
use Rattle.live_rounds.specs.Stations.{Worked}
use Rattle.live_rounds.proofs.Working.{left_at, zip_at}
use Rattle.live_rounds.proofs.work.work_all.Goals as goal

pub returns : goal.returns
returns g c =
    let R = Worked g.S.Checker.identity g.S.Checker.opening g.S.Checker.list g.P.PacketSource.left c.args.stop in
    zip_at R _ _ (omega arith)
    (λ i d below. let h = (c.for_each_mut.ensures i d below).1 in left_at R _ _ _ _ h.argument_is h.left h.call)
