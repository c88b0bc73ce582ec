use Rattle.std.proofs.Common.{◌∙◌}
use Rattle.prefix_map.proofs.Built.{are_built, are_kept}
use Rattle.prefix_map.proofs.builder.PrefixMapBuilder.finish.Goals as goal

pub invariant_of-result : goal.invariant_of-result
invariant_of-result g c =
    are_kept c.self.inside.short.items c.self.inside.long.items c.in_ok-short.short c.in_ok-long.long
    c.in_ok-short.ensures c.in_ok-long.ensures c.self.invariant

pub returns : goal.returns
returns g c =
    are_built c.self.inside.short.items c.self.inside.long.items c.in_ok-short.short c.in_ok-long.long
    c.in_ok-short.ensures c.in_ok-long.ensures ∙ c.self.view_is
