use Rattle.std.proofs.Common.{ap, ◌∙◌}
use Rattle.origin_pairs.specs.Kept.{all_pairs}
use Rattle.origin_pairs.proofs.Members.{has_found, not_found}
use Rattle.prefix_map.proofs.Outcomes.{on_err}
use Rattle.origin_pairs.proofs.Seen.{added, ascending, ascends, found_long, found_short, kept_long, kept_short}
use Rattle.origin_pairs.proofs.Seen.{puts_long, puts_short}
use Rattle.origin_pairs.proofs.pair_set.PairSet.add.Goals as goal

pub invariant_of-self : goal.invariant_of-self
invariant_of-self c = kept_short c.insert_into.new.set.keys c.self.invariant c.insert_into.ensures.ordered

pub invariant_of-self-in-Long : goal.invariant_of-self-in-Long
invariant_of-self-in-Long c =
    kept_long c.insert_into-in-Long.new.set.keys c.self.invariant c.insert_into-in-Long.ensures.ordered

pub returns-in-Short-clause-added : goal.returns-in-Short-clause-added
returns-in-Short-clause-added c = λ ok.
    let told = c.insert_into.ensures.added ok in
    added (ascends c.self.invariant c.self.view_is) (ascending _ _ (invariant_of-self c))
    (found_short c.in-Short.pair c.self.invariant c.self.view_is c.in-Short.ensures told.0)
    (puts_short c.in-Short.pair c.self.invariant c.self.view_is c.in-Short.ensures told.1)

pub returns-in-Short-clause-there : goal.returns-in-Short-clause-there
returns-in-Short-clause-there c = λ ok.
    let told = c.insert_into.ensures.there ok in (
      has_found _ _ (found_short c.in-Short.pair c.self.invariant c.self.view_is c.in-Short.ensures told.0),
      ap (λ l. all_pairs l c.self.inside.long.keys) told.1 ∙ c.self.view_is,
    )

pub returns-in-Short-clause-absent : goal.returns-in-Short-clause-absent
returns-in-Short-clause-absent c =
    on_err c.insert_into.result c.insert_into.ensures.absent
    (λ none. not_found _ _ (found_short c.in-Short.pair c.self.invariant c.self.view_is c.in-Short.ensures none))

pub returns-in-Long-clause-added : goal.returns-in-Long-clause-added
returns-in-Long-clause-added c = λ ok.
    let told = c.insert_into-in-Long.ensures.added ok in
    added (ascends c.self.invariant c.self.view_is) (ascending _ _ (invariant_of-self-in-Long c))
    (found_long c.in-Long.pair c.self.invariant c.self.view_is c.in-Long.ensures told.0)
    (puts_long c.in-Long.pair c.self.invariant c.self.view_is c.in-Long.ensures told.1)

pub returns-in-Long-clause-there : goal.returns-in-Long-clause-there
returns-in-Long-clause-there c = λ ok.
    let told = c.insert_into-in-Long.ensures.there ok in (
      has_found _ _ (found_long c.in-Long.pair c.self.invariant c.self.view_is c.in-Long.ensures told.0),
      ap (λ l. all_pairs c.self.inside.short.keys l) told.1 ∙ c.self.view_is,
    )

pub returns-in-Long-clause-absent : goal.returns-in-Long-clause-absent
returns-in-Long-clause-absent c =
    on_err c.insert_into-in-Long.result c.insert_into-in-Long.ensures.absent
    (λ none. not_found _ _ (found_long c.in-Long.pair c.self.invariant c.self.view_is c.in-Long.ensures none))
