use Rattle.cover_table.proofs.Folding.{changed, taken_filled, unchanged}
use Rattle.cover_table.proofs.Writes.{written_here, written_others}
use Rattle.cover_table.proofs.laws.written_laws.Goals as goal

pub returns-clause-here : goal.returns-clause-here
returns-clause-here c = written_here

pub returns-clause-others : goal.returns-clause-others
returns-clause-others c = written_others

pub returns-clause-changed : goal.returns-clause-changed
returns-clause-changed c = changed

pub returns-clause-unchanged : goal.returns-clause-unchanged
returns-clause-unchanged c = unchanged

pub returns-clause-filled : goal.returns-clause-filled
returns-clause-filled c = taken_filled
