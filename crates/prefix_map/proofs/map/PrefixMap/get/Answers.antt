use Rattle.std.proofs.Common.{sym, ◌∙◌}
use Rattle.prefix_map.proofs.Seen.{gets_short, gets_long}
use Rattle.prefix_map.proofs.map.PrefixMap.get.Goals as goal

pub returns-in-Short : goal.returns-in-Short
returns-in-Short g c =
    c.copied.ensures ∙ c.get.ensures.value
    ∙ sym (gets_short c.in-Short.key c.self.invariant c.self.view_is c.in-Short.ensures)

pub returns-in-Long : goal.returns-in-Long
returns-in-Long g c =
    c.copied-in-Long.ensures ∙ c.get-in-Long.ensures.value
    ∙ sym (gets_long c.in-Long.key c.self.invariant c.self.view_is c.in-Long.ensures)
