use Rattle.prefix_map.proofs.Held.{none_held}
use Rattle.adj_rib.proofs.Routes.{no_prefixes}
use Rattle.adj_rib.proofs.rib.AdjRib.clear.Goals as goal

pub returns-clause-empty : goal.returns-clause-empty
returns-clause-empty c = no_prefixes c.clear.new.self c.clear.ensures

pub returns-clause-none : goal.returns-clause-none
returns-clause-none c p = none_held c.clear.new.self p c.clear.ensures
