use Rattle.cover_table.proofs.Passing.{passes_is}
use Rattle.cover_table.proofs.laws.judge_laws.Goals as goal

pub returns-clause-passes : goal.returns-clause-passes
returns-clause-passes c = passes_is
