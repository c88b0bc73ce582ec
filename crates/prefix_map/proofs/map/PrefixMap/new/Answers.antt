use Rattle.prefix_map.proofs.Seen.{seen_nothing}
use Rattle.prefix_map.proofs.map.PrefixMap.new.Goals as goal

pub returns : goal.returns
returns g c = seen_nothing _ _ c.new.ensures.empty c.new-2.ensures.empty
