use Rattle.adj_rib.proofs.Routes.{set_changes}
use Rattle.adj_rib.proofs.rib.AdjRib.replace.Goals as goal

pub returns-clause-new : goal.returns-clause-new
returns-clause-new c = set_changes _ _ _ c.args.prefix.now c.args.origin c.self.view_is c.replace.ensures.new
