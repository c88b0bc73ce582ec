use Rattle.origin_pairs.proofs.Seen.{none_kept}
use Rattle.origin_pairs.proofs.pair_set.PairSet.new.Goals as goal

pub invariant_of-result : goal.invariant_of-result
invariant_of-result c = none_kept c.new.ensures.empty c.new-2.ensures.empty
