use Rattle.prefix_map.proofs.Built.{built_nothing}
use Rattle.prefix_map.proofs.builder.PrefixMapBuilder.new.Goals as goal

pub returns : goal.returns
returns g c = built_nothing _ _ c.new.ensures.items c.new-2.ensures.items
