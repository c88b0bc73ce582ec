use Rattle.std.proofs.Common.{[], refl}
use Rattle.control_core.specs.Peers.{peer_of}
use Rattle.control_core.proofs.TurnEnds.{counts_one, gave_none, stands_alike, turned_one}
use Rattle.control_core.proofs.peering.Peering.turn.Goals as goal

pub returns-in-Whole-clause-stands : goal.returns-in-Whole-clause-stands
returns-in-Whole-clause-stands g c = λ events effects stands memory.
    turned_one events [] effects (g.F.Feed.left c.args.feed.now) _
    c.take_message.result _ (peer_of c.take_message.new.self)
    (gave_none _) c.take_message.ensures.takes
    (stands_alike events effects (peer_of c.args.self.now) _ stands refl refl refl c.front.ensures.held
    c.front.ensures.receiving) memory

pub returns-in-Whole-clause-counts : goal.returns-in-Whole-clause-counts
returns-in-Whole-clause-counts g c =
    counts_one [] c.take_message.result (peer_of c.args.self.now) _ (peer_of c.take_message.new.self) c.args.limits.now
    refl refl refl c.take_message.ensures.takes

pub returns-in-Fault-clause-stands : goal.returns-in-Fault-clause-stands
returns-in-Fault-clause-stands g c = λ events effects stands memory.
    turned_one events [] effects (g.F.Feed.left c.args.feed.now) _ c.take_fault.result _ (peer_of c.take_fault.new.self)
    (gave_none _) c.take_fault.ensures.takes
    (stands_alike events effects (peer_of c.args.self.now) _ stands refl refl refl c.front.ensures.held
    c.front.ensures.receiving) memory

pub returns-in-Fault-clause-counts : goal.returns-in-Fault-clause-counts
returns-in-Fault-clause-counts g c =
    counts_one [] c.take_fault.result (peer_of c.args.self.now) _ (peer_of c.take_fault.new.self) c.args.limits.now
    refl refl refl c.take_fault.ensures.takes
