use Rattle.rpf_plain.proofs.WiderModes.{more_members, more_verdicts}
use Rattle.rpf_plain.proofs.laws.more_routes.Goals as goal

pub returns-clause-sets : goal.returns-clause-sets
returns-clause-sets c = more_members

pub returns-clause-passes : goal.returns-clause-passes
returns-clause-passes c = more_verdicts
