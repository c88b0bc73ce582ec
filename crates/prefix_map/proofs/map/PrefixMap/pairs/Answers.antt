use Rattle.std.proofs.Common.{◌∙◌}
use Rattle.prefix_map.proofs.Seen.{after-none}
use Rattle.prefix_map.proofs.map.PrefixMap.pairs.Goals as goal

pub returns-clause-list : goal.returns-clause-list
returns-clause-list g c = c.pairs_after.ensures.list ∙ after-none c.args.self.now
