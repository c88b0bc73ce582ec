use Rattle.rpf_plain.proofs.Verdicts.{one_verdict, same_verdict, some_verdict}
use Rattle.rpf_plain.proofs.laws.verdict_laws.Goals as goal

pub returns-clause-some : goal.returns-clause-some
returns-clause-some c = some_verdict

pub returns-clause-one : goal.returns-clause-one
returns-clause-one c = one_verdict

pub returns-clause-members : goal.returns-clause-members
returns-clause-members c = same_verdict
