use Rattle.rpf_plain.proofs.Narrower.{a_has_more, any_has_more, z_has_more}
use Rattle.rpf_plain.proofs.laws.widening_is_strict.Goals as goal

pub returns-clause-a : goal.returns-clause-a
returns-clause-a c = a_has_more

pub returns-clause-z : goal.returns-clause-z
returns-clause-z c = z_has_more

pub returns-clause-any : goal.returns-clause-any
returns-clause-any c = any_has_more
