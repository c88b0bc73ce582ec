use Rattle.rpf_plain.proofs.Differing.{one_difference, some_difference}
use Rattle.rpf_plain.proofs.laws.difference_laws.Goals as goal

pub returns-clause-some : goal.returns-clause-some
returns-clause-some c = some_difference

pub returns-clause-one : goal.returns-clause-one
returns-clause-one c = one_difference
