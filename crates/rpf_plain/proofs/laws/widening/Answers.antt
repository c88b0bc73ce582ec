use Rattle.rpf_plain.proofs.Wider.{a_in_z, feasible_in_a, feasible_in_z, kept_in_a, routes_in_a, z_in_any}
use Rattle.rpf_plain.proofs.laws.widening.Goals as goal

pub returns-clause-feasible_in_a : goal.returns-clause-feasible_in_a
returns-clause-feasible_in_a c = feasible_in_a

pub returns-clause-routes_in_a : goal.returns-clause-routes_in_a
returns-clause-routes_in_a c = routes_in_a

pub returns-clause-kept_in_a : goal.returns-clause-kept_in_a
returns-clause-kept_in_a c = kept_in_a

pub returns-clause-a_in_z : goal.returns-clause-a_in_z
returns-clause-a_in_z c = a_in_z

pub returns-clause-feasible_in_z : goal.returns-clause-feasible_in_z
returns-clause-feasible_in_z c = feasible_in_z

pub returns-clause-z_in_any : goal.returns-clause-z_in_any
returns-clause-z_in_any c = z_in_any
