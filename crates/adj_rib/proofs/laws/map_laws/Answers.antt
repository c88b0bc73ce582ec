use Rattle.adj_rib.proofs.Routes.{is_distinct, has_held, has_pair, same_routes}
use Rattle.adj_rib.proofs.laws.map_laws.Goals as goal

pub returns-clause-distinct : goal.returns-clause-distinct
returns-clause-distinct c = is_distinct

pub returns-clause-held : goal.returns-clause-held
returns-clause-held c = has_held

pub returns-clause-pairs : goal.returns-clause-pairs
returns-clause-pairs c = has_pair

pub returns-clause-same : goal.returns-clause-same
returns-clause-same c = same_routes
