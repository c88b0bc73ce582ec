use Rattle.control_core.proofs.Routes.{holds_one_more}
use Rattle.control_core.proofs.table.one_more_update.Goals as goal

pub returns-clause-more : goal.returns-clause-more
returns-clause-more c = holds_one_more
