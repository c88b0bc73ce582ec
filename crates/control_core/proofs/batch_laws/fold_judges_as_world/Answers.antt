use Rattle.control_core.proofs.BatchWorlds.{fold_counts, fold_judges}
use Rattle.control_core.proofs.batch_laws.fold_judges_as_world.Goals as goal

pub returns-clause-verdict : goal.returns-clause-verdict
returns-clause-verdict c = fold_judges

pub returns-clause-number : goal.returns-clause-number
returns-clause-number c = fold_counts
