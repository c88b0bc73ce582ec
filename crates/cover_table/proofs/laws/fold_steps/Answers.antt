use Rattle.cover_table.proofs.Folding.{fold_more}
use Rattle.cover_table.proofs.laws.fold_steps.Goals as goal

pub returns-clause-more : goal.returns-clause-more
returns-clause-more c = fold_more
