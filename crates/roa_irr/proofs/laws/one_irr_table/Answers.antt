use Rattle.roa_irr.proofs.OneTable.{irr_one, irr_some}
use Rattle.roa_irr.proofs.laws.one_irr_table.Goals as goal

pub returns-clause-some : goal.returns-clause-some
returns-clause-some c = irr_some

pub returns-clause-one : goal.returns-clause-one
returns-clause-one c = irr_one
