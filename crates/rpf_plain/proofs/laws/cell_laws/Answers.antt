use Rattle.rpf_plain.proofs.Alike.{same_members, same_worlds}
use Rattle.rpf_plain.proofs.Drained.{one_cell}
use Rattle.rpf_plain.proofs.Made.{some_cell}
use Rattle.rpf_plain.proofs.Modal.{says}
use Rattle.rpf_plain.proofs.laws.cell_laws.Goals as goal

pub returns-clause-some : goal.returns-clause-some
returns-clause-some c = some_cell

pub returns-clause-one : goal.returns-clause-one
returns-clause-one c = one_cell

pub returns-clause-members : goal.returns-clause-members
returns-clause-members c = same_members

pub returns-clause-order : goal.returns-clause-order
returns-clause-order c = same_worlds

pub returns-clause-says : goal.returns-clause-says
returns-clause-says c = says
