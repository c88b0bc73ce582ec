use Rattle.prefix_map.proofs.Held.{is_ascending}
use Rattle.prefix_map.proofs.Seen.{after-none}
use Rattle.prefix_map.proofs.laws.order_laws.Goals as goal

pub returns-clause-ascending : goal.returns-clause-ascending
returns-clause-ascending g c = is_ascending

pub returns-clause-all : goal.returns-clause-all
returns-clause-all g c = after-none
