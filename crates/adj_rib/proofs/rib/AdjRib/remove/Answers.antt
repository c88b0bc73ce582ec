use Rattle.adj_rib.proofs.Routes.{gone_changes}
use Rattle.adj_rib.proofs.rib.AdjRib.remove.Goals as goal

pub returns-clause-gone : goal.returns-clause-gone
returns-clause-gone c = gone_changes _ _ _ c.args.prefix.now c.self.view_is c.remove.ensures.gone
