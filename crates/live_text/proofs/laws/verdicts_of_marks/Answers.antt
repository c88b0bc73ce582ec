use Rattle.live_text.proofs.Verdicts.{verdict_of_mark}
use Rattle.live_text.proofs.laws.verdicts_of_marks.Goals as goal

pub returns : goal.returns
returns c = verdict_of_mark
