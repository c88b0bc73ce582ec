use Rattle.std.proofs.Common.{arith}
use Rattle.prefix_map.proofs.Built.{builds_long, builds_short}
use Rattle.prefix_map.proofs.Outcomes.{on_ok}
use Rattle.prefix_map.proofs.builder.PrefixMapBuilder.set.Goals as goal

pub returns-in-Short-clause-ok : goal.returns-in-Short-clause-ok
returns-in-Short-clause-ok g c =
    on_ok c.push_within.result c.push_within.ensures.ok
    (λ is. builds_short c.self.inside.short.items c.self.inside.long.items c.in-Short.key c.args.value c.self.invariant (omega arith) c.self.view_is c.in-Short.ensures is)

pub returns-in-Long-clause-ok : goal.returns-in-Long-clause-ok
returns-in-Long-clause-ok g c =
    on_ok c.push_within-in-Long.result c.push_within-in-Long.ensures.ok
    (λ is. builds_long c.self.inside.short.items c.self.inside.long.items c.in-Long.key c.args.value c.self.invariant (omega arith) c.self.view_is c.in-Long.ensures is)
