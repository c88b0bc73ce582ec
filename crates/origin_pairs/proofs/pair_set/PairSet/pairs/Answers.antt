use Rattle.origin_pairs.proofs.Seen.{ascends}
use Rattle.origin_pairs.proofs.pair_set.PairSet.pairs.Goals as goal

pub returns-clause-ascending : goal.returns-clause-ascending
returns-clause-ascending c = ascends c.self.invariant c.self.view_is
