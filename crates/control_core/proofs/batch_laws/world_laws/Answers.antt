use Rattle.control_core.proofs.BatchWorlds.{stands_first, stands_then, verdict_of}
use Rattle.control_core.proofs.batch_laws.world_laws.Goals as goal

pub returns-clause-first : goal.returns-clause-first
returns-clause-first c = stands_first

pub returns-clause-step : goal.returns-clause-step
returns-clause-step c = stands_then

pub returns-clause-verdict : goal.returns-clause-verdict
returns-clause-verdict c = verdict_of
