use Rattle.std.proofs.Common.{subst, sym}
use mathlib.Core.List.{IsPrefix}
use Rattle.forward_worker.proofs.Answering.{prefix_trans}
use Rattle.live_rounds.specs.Seats.{list_of}
use Rattle.live_rounds.proofs.place.Seat.settle.Goals as goal

pub returns-in-Seated-clause-grows : goal.returns-in-Seated-clause-grows
returns-in-Seated-clause-grows g c =
    subst (λ seat. IsPrefix (list_of seat) c.check.new.self.list) (sym c.in-Seated.is)
    (prefix_trans c.in-Seated.pass.list c.learn.new.self.list c.check.new.self.list c.learn.ensures.known
    c.check.ensures.grows)
