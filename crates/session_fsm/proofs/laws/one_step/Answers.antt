use Rattle.session_fsm.proofs.StepLaws.{some_outcome, one_outcome}
use Rattle.session_fsm.proofs.laws.one_step.Goals as goal

pub returns-clause-some : goal.returns-clause-some
returns-clause-some c config state item = some_outcome config state item

pub returns-clause-only : goal.returns-clause-only
returns-clause-only c config state item a b first second = one_outcome config state item a b first second
