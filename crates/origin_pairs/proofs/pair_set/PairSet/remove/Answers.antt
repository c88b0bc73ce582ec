use Rattle.std.proofs.Common.{ap, sym, ◌∙◌}
use Rattle.origin_pairs.specs.Kept.{all_pairs}
use Rattle.origin_pairs.proofs.Members.{not_found}
use Rattle.origin_pairs.proofs.Seen.{ascending, ascends, found_long, found_short, kept_long, kept_short, removed}
use Rattle.origin_pairs.proofs.Seen.{takes_long, takes_short}
use Rattle.origin_pairs.proofs.pair_set.PairSet.remove.Goals as goal

pub invariant_of-self : goal.invariant_of-self
invariant_of-self c = kept_short c.remove.new.self.keys c.self.invariant c.remove.ensures.ordered

pub invariant_of-self-in-Long : goal.invariant_of-self-in-Long
invariant_of-self-in-Long c = kept_long c.remove-in-Long.new.self.keys c.self.invariant c.remove-in-Long.ensures.ordered

pub returns-in-Short-clause-removed : goal.returns-in-Short-clause-removed
returns-in-Short-clause-removed c = λ yes.
    removed (ascends c.self.invariant c.self.view_is) (ascending _ _ (invariant_of-self c))
    (found_short c.in-Short.pair c.self.invariant c.self.view_is c.in-Short.ensures (sym c.remove.ensures.test ∙ yes))
    (takes_short c.in-Short.pair c.self.invariant c.self.view_is c.in-Short.ensures c.remove.ensures.keys)

pub returns-in-Short-clause-absent : goal.returns-in-Short-clause-absent
returns-in-Short-clause-absent c = λ no. (
  not_found _ _
      (found_short c.in-Short.pair c.self.invariant c.self.view_is c.in-Short.ensures (sym c.remove.ensures.test ∙ no)),
  ap (λ l. all_pairs l c.self.inside.long.keys) (rw no at c.remove.ensures.unchanged) ∙ c.self.view_is,
)

pub returns-in-Long-clause-removed : goal.returns-in-Long-clause-removed
returns-in-Long-clause-removed c = λ yes.
    removed (ascends c.self.invariant c.self.view_is) (ascending _ _ (invariant_of-self-in-Long c))
    (found_long c.in-Long.pair c.self.invariant c.self.view_is c.in-Long.ensures
    (sym c.remove-in-Long.ensures.test ∙ yes))
    (takes_long c.in-Long.pair c.self.invariant c.self.view_is c.in-Long.ensures c.remove-in-Long.ensures.keys)

pub returns-in-Long-clause-absent : goal.returns-in-Long-clause-absent
returns-in-Long-clause-absent c = λ no. (
  not_found _ _
      (found_long c.in-Long.pair c.self.invariant c.self.view_is c.in-Long.ensures
      (sym c.remove-in-Long.ensures.test ∙ no)),
  ap (λ l. all_pairs c.self.inside.short.keys l) (rw no at c.remove-in-Long.ensures.unchanged) ∙ c.self.view_is,
)
