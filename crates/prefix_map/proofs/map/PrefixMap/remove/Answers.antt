use Rattle.std.proofs.Common.{sym, ◌∙◌}
use Rattle.prefix_map.proofs.Seen.{kept_short, kept_long, fewer_left, fewer_right, gets_short, gets_long, removes_short}
use Rattle.prefix_map.proofs.Seen.{removes_long}
use Rattle.prefix_map.proofs.map.PrefixMap.remove.Goals as goal

pub invariant_of-self : goal.invariant_of-self
invariant_of-self g c =
    kept_short c.remove.new.self.entries c.self.invariant c.remove.ensures.ordered
    (fewer_left c.remove.new.self.entries _ c.self.invariant c.remove.ensures.len)

pub invariant_of-self-in-Long : goal.invariant_of-self-in-Long
invariant_of-self-in-Long g c =
    kept_long c.remove-in-Long.new.self.entries c.self.invariant c.remove-in-Long.ensures.ordered
    (fewer_right c.remove-in-Long.new.self.entries _ c.self.invariant c.remove-in-Long.ensures.len)

pub returns-in-Short-clause-old : goal.returns-in-Short-clause-old
returns-in-Short-clause-old g c =
    c.remove.ensures.value ∙ sym (gets_short c.in-Short.key c.self.invariant c.self.view_is c.in-Short.ensures)

pub returns-in-Short-clause-gone : goal.returns-in-Short-clause-gone
returns-in-Short-clause-gone g c =
    removes_short c.in-Short.key c.self.invariant (invariant_of-self g c) c.self.view_is c.in-Short.ensures
    c.remove.ensures.entries

pub returns-in-Long-clause-old : goal.returns-in-Long-clause-old
returns-in-Long-clause-old g c =
    c.remove-in-Long.ensures.value ∙ sym (gets_long c.in-Long.key c.self.invariant c.self.view_is c.in-Long.ensures)

pub returns-in-Long-clause-gone : goal.returns-in-Long-clause-gone
returns-in-Long-clause-gone g c =
    removes_long c.in-Long.key c.self.invariant (invariant_of-self-in-Long g c) c.self.view_is c.in-Long.ensures
    c.remove-in-Long.ensures.entries
