use Rattle.control_core.proofs.RunLaws as laws
use Rattle.control_core.proofs.SomeRun.{some_run}
use Rattle.control_core.proofs.laws.one_run.Goals as goal

pub returns-clause-some : goal.returns-clause-some
returns-clause-some c = some_run

pub returns-clause-only : goal.returns-clause-only
returns-clause-only c = laws.one_run
