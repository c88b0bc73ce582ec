use Rattle.prefix_map.proofs.Held.{none_held}
use Rattle.adj_rib.proofs.Routes.{no_prefixes}
use Rattle.adj_rib.proofs.rib.AdjRib.new.Goals as goal

pub returns-clause-empty : goal.returns-clause-empty
returns-clause-empty c = no_prefixes c.new.result c.new.ensures

pub returns-clause-none : goal.returns-clause-none
returns-clause-none c p = none_held c.new.result p c.new.ensures
