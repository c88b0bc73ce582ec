use Rattle.epoch_publish.proofs.Numbering.{fold_number}
use Rattle.epoch_publish.proofs.laws.numbered_folds.Goals as goal

pub returns : goal.returns
returns c = fold_number
