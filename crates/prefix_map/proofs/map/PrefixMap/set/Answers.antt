use Rattle.std.proofs.Common.{sym, ◌∙◌, arith}
use Rattle.prefix_map.proofs.Outcomes.{if_ok, on_ok, on_err}
use Rattle.prefix_map.proofs.Seen.{kept_short, kept_long, gets_short, gets_long, sets_short, sets_long}
use Rattle.prefix_map.proofs.map.PrefixMap.set.Goals as goal

pub invariant_of-self : goal.invariant_of-self
invariant_of-self g c =
    kept_short c.insert_within.new.map.entries c.self.invariant c.insert_within.ensures.ordered (omega arith)

pub invariant_of-self-in-Long : goal.invariant_of-self-in-Long
invariant_of-self-in-Long g c =
    kept_long c.insert_within-in-Long.new.map.entries c.self.invariant c.insert_within-in-Long.ensures.ordered
    (omega arith)

pub returns-in-Short-clause-old : goal.returns-in-Short-clause-old
returns-in-Short-clause-old g c =
    if_ok c.insert_within.result c.insert_within.ensures.old
    (λ old is. is ∙ sym (gets_short c.in-Short.key c.self.invariant c.self.view_is c.in-Short.ensures))

pub returns-in-Short-clause-ok : goal.returns-in-Short-clause-ok
returns-in-Short-clause-ok g c =
    on_ok c.insert_within.result c.insert_within.ensures.entries
    (λ is. sets_short c.in-Short.key c.args.value c.self.invariant (invariant_of-self g c) c.self.view_is
    c.in-Short.ensures is)

pub returns-in-Short-clause-absent : goal.returns-in-Short-clause-absent
returns-in-Short-clause-absent g c =
    on_err c.insert_within.result c.insert_within.ensures.absent
    (λ is. gets_short c.in-Short.key c.self.invariant c.self.view_is c.in-Short.ensures ∙ is)

pub returns-in-Long-clause-old : goal.returns-in-Long-clause-old
returns-in-Long-clause-old g c =
    if_ok c.insert_within-in-Long.result c.insert_within-in-Long.ensures.old
    (λ old is. is ∙ sym (gets_long c.in-Long.key c.self.invariant c.self.view_is c.in-Long.ensures))

pub returns-in-Long-clause-ok : goal.returns-in-Long-clause-ok
returns-in-Long-clause-ok g c =
    on_ok c.insert_within-in-Long.result c.insert_within-in-Long.ensures.entries
    (λ is. sets_long c.in-Long.key c.args.value c.self.invariant (invariant_of-self-in-Long g c) c.self.view_is
    c.in-Long.ensures is)

pub returns-in-Long-clause-absent : goal.returns-in-Long-clause-absent
returns-in-Long-clause-absent g c =
    on_err c.insert_within-in-Long.result c.insert_within-in-Long.ensures.absent
    (λ is. gets_long c.in-Long.key c.self.invariant c.self.view_is c.in-Long.ensures ∙ is)
