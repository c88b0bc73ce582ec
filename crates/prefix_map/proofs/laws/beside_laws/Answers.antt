use Rattle.prefix_map.proofs.Sides.{beside_ascends, beside_pairs}
use Rattle.prefix_map.proofs.laws.beside_laws.Goals as goal

pub returns-clause-ascending : goal.returns-clause-ascending
returns-clause-ascending g c = beside_ascends

pub returns-clause-pairs : goal.returns-clause-pairs
returns-clause-pairs g c = beside_pairs
