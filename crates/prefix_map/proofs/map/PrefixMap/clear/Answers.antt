use Rattle.prefix_map.proofs.Seen.{seen_nothing}
use Rattle.prefix_map.proofs.map.PrefixMap.clear.Goals as goal

pub returns : goal.returns
returns g c = seen_nothing _ _ c.clear.ensures.empty c.clear-2.ensures.empty
