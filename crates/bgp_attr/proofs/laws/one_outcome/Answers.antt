use Rattle.bgp_attr.proofs.DecideLaws.{has_outcome, good_without_fault}
use Rattle.bgp_attr.proofs.FaultLaws.{no_fault, one_fault, one_list}
use Rattle.bgp_attr.proofs.laws.one_outcome.Goals as goal

pub returns-clause-some : goal.returns-clause-some
returns-clause-some c width v6 field = has_outcome width v6 field

pub returns-clause-exact : goal.returns-clause-exact
returns-clause-exact c width v6 field =
    (λ good sub fault. no_fault width v6 field good.0 sub good.1 fault, λ none. good_without_fault width v6 field none)

pub returns-clause-one_list : goal.returns-clause-one_list
returns-clause-one_list c width v6 field xs ys first second = one_list width v6 field xs ys first second

pub returns-clause-one_fault : goal.returns-clause-one_fault
returns-clause-one_fault c width v6 field sub other first second = one_fault width v6 field sub other first second
