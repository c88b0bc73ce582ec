use Rattle.prefix_map.proofs.Held.{is_distinct, has_held, has_pair, same_held}
use Rattle.prefix_map.proofs.laws.map_laws.Goals as goal

pub returns-clause-distinct : goal.returns-clause-distinct
returns-clause-distinct g c = is_distinct

pub returns-clause-held : goal.returns-clause-held
returns-clause-held g c = has_held

pub returns-clause-pairs : goal.returns-clause-pairs
returns-clause-pairs g c = has_pair

pub returns-clause-same : goal.returns-clause-same
returns-clause-same g c = same_held
