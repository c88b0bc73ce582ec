use Rattle.adj_rib.proofs.Routes.{is_ascending, pairs_after-none}
use Rattle.adj_rib.proofs.laws.order_laws.Goals as goal

pub returns-clause-ascending : goal.returns-clause-ascending
returns-clause-ascending c = is_ascending

pub returns-clause-all : goal.returns-clause-all
returns-clause-all c = pairs_after-none
