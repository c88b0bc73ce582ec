use Rattle.rpf_plain.proofs.Narrower.{lacks_customer_with_pairs, pairs_have_more}
use Rattle.rpf_plain.proofs.Wider.{a_in_z_with_pairs, listed_with_pairs, z_with_pairs}
use Rattle.rpf_plain.proofs.laws.widening_with_pairs.Goals as goal

pub returns-clause-more : goal.returns-clause-more
returns-clause-more c w i p = (listed_with_pairs w i p, z_with_pairs w p)

pub returns-clause-a_in_z : goal.returns-clause-a_in_z
returns-clause-a_in_z c = a_in_z_with_pairs

pub returns-clause-customer : goal.returns-clause-customer
returns-clause-customer c = lacks_customer_with_pairs

pub returns-clause-any : goal.returns-clause-any
returns-clause-any c = pairs_have_more
