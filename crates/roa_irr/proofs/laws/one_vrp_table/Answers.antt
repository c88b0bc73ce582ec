use Rattle.roa_irr.proofs.OneTable.{vrp_one, vrp_some}
use Rattle.roa_irr.proofs.laws.one_vrp_table.Goals as goal

pub returns-clause-some : goal.returns-clause-some
returns-clause-some c = vrp_some

pub returns-clause-one : goal.returns-clause-one
returns-clause-one c = vrp_one
