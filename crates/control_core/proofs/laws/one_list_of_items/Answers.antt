use Rattle.std.proofs.Common.{None, sym, ◌∙◌}
use Rattle.control_core.proofs.ItemLaws.{are_items, items_after, only_items}
use Rattle.control_core.proofs.laws.one_list_of_items.Goals as goal

pub returns-clause-some : goal.returns-clause-some
returns-clause-some c = λ events. (items_after None events, are_items None events)

pub returns-clause-only : goal.returns-clause-only
returns-clause-only c =
    λ events a b first second. only_items None events a first ∙ sym (only_items None events b second)
