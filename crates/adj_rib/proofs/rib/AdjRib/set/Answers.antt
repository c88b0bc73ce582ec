use Rattle.prefix_map.proofs.Outcomes.{on_ok}
use Rattle.adj_rib.proofs.Routes.{set_changes}
use Rattle.adj_rib.proofs.rib.AdjRib.set.Goals as goal

pub returns-clause-ok : goal.returns-clause-ok
returns-clause-ok c = on_ok c.set.result c.set.ensures.ok (set_changes _ _ _ c.args.prefix c.args.origin c.self.view_is)
