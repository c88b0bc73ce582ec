use Rattle.bgp_update.proofs.OutcomeLaws.{has_outcome, never_both, fault_once, good_without_fault}
use Rattle.bgp_update.proofs.UpdateLaws.{one_update}
use Rattle.bgp_update.proofs.laws.one_outcome.Goals as goal

pub returns-clause-some : goal.returns-clause-some
returns-clause-some c width v6 body = has_outcome width v6 body

pub returns-clause-exact : goal.returns-clause-exact
returns-clause-exact c width v6 body =
    (λ is sub fault. never_both width v6 body is.0 sub is.1 fault, λ none. good_without_fault width v6 body none)

pub returns-clause-one_update : goal.returns-clause-one_update
returns-clause-one_update c width v6 body u v first second = one_update width v6 body u v first second

pub returns-clause-one_fault : goal.returns-clause-one_fault
returns-clause-one_fault c width v6 body sub other first second = fault_once width v6 body sub other first second
