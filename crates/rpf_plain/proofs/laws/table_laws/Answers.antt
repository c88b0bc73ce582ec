use Rattle.rpf_plain.proofs.Drained.{no_rows, one_table}
use Rattle.rpf_plain.proofs.Made.{some_table}
use Rattle.rpf_plain.proofs.laws.table_laws.Goals as goal

pub returns-clause-some : goal.returns-clause-some
returns-clause-some c = some_table

pub returns-clause-one : goal.returns-clause-one
returns-clause-one c = one_table

pub returns-clause-none : goal.returns-clause-none
returns-clause-none c = no_rows
