use Rattle.rpf_plain.proofs.Narrower.{lacks_customer, lacks_origin}
use Rattle.rpf_plain.proofs.laws.widening_needs.Goals as goal

pub returns-clause-origin : goal.returns-clause-origin
returns-clause-origin c = lacks_origin

pub returns-clause-customer : goal.returns-clause-customer
returns-clause-customer c = lacks_customer
