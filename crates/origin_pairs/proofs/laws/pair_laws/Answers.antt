use Rattle.origin_pairs.proofs.Members.{distinct, equal_from_same, same_from_equal}
use Rattle.origin_pairs.proofs.Sets.{sets_equally_long, some_set}
use Rattle.origin_pairs.proofs.laws.pair_laws.Goals as goal

pub returns-clause-some : goal.returns-clause-some
returns-clause-some c = some_set

pub returns-clause-long : goal.returns-clause-long
returns-clause-long c = sets_equally_long

pub returns-clause-ascending : goal.returns-clause-ascending
returns-clause-ascending c = distinct

pub returns-clause-same : goal.returns-clause-same
returns-clause-same c = λ a b. (equal_from_same a b, same_from_equal a b)
