use Rattle.std.proofs.Common.{arith, ap, length, length-take, take, subst}
use Rattle.bgp_wire.proofs.Filling.{filled_upto}
use Rattle.bgp_wire.proofs.framer.Framer.fill.Goals as goal
use Rattle.bgp_wire.specs.States.{IsBuffered}

pub append-requires : goal.append-requires
append-requires c =
    let same = ap length c.held.ensures.held in
    filled_upto c.args.self.now (take c.min-count.result c.args.piece.now) c.args.upto
    (subst IsBuffered c.held.ensures.held c.held.ensures.buffered) c.requires
    (omega (arith, length-take c.min-count.result c.args.piece.now))
