use Rattle.rpf_plain.proofs.WiderModes.{a_to_b, b_to_loose, feasible_to_a, feasible_to_b}
use Rattle.rpf_plain.proofs.laws.wider_modes.Goals as goal

pub returns-clause-feasible_to_a : goal.returns-clause-feasible_to_a
returns-clause-feasible_to_a c = feasible_to_a

pub returns-clause-feasible_to_b : goal.returns-clause-feasible_to_b
returns-clause-feasible_to_b c = feasible_to_b

pub returns-clause-a_to_b : goal.returns-clause-a_to_b
returns-clause-a_to_b c = a_to_b

pub returns-clause-b_to_loose : goal.returns-clause-b_to_loose
returns-clause-b_to_loose c = b_to_loose
