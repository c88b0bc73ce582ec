use Rattle.std.proofs.Common.{◌≡◌, true, sym, subst, ◌∙◌}
use Rattle.std.specs.FinMap.{is_sorted}
use Rattle.urpf_base.specs.Order.{prefix_order}
use Rattle.prefix_map.proofs.Merge.{led}
use Rattle.prefix_map.proofs.Seen.{entries_ascend}
use Rattle.prefix_map.proofs.beside.Beside.over.Goals as goal

pub invariant_of-result : goal.invariant_of-result
invariant_of-result g c =
    subst (λ l. is_sorted prefix_order l ≡ true)
    (sym (led c.next-2.result c.pairs-right.result c.next-2.new.self c.next-2.ensures.steps
    ∙ c.pairs-right.ensures.list)) (entries_ascend c.args.right.now)
