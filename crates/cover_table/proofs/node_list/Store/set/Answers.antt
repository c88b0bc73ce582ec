use Rattle.std.proofs.Common.{◌∙◌, ap, sym, map, slice_set}
use Rattle.std.proofs.lemmas.List.{map-set}
use Rattle.cover_table.specs.NodeLists.{node_of, stored}
use Rattle.cover_table.proofs.node_list.Store.set.Goals as goal

pub returns-in-Short-clause-items : goal.returns-in-Short-clause-items
returns-in-Short-clause-items c =
    map-set node_of c.in-Short.slots.items c.args.at c.of.result
    ∙ ap (λ s. slice_set (map node_of c.in-Short.slots.items) c.args.at (node_of s)) c.of.ensures
    ∙ ap (λ s. slice_set (stored s) c.args.at c.args.node.now) (sym c.in-Short.is)

pub returns-in-Long-clause-items : goal.returns-in-Long-clause-items
returns-in-Long-clause-items c =
    map-set node_of c.in-Long.slots.items c.args.at c.of-in-Long.result
    ∙ ap (λ s. slice_set (map node_of c.in-Long.slots.items) c.args.at (node_of s)) c.of-in-Long.ensures
    ∙ ap (λ s. slice_set (stored s) c.args.at c.args.node.now) (sym c.in-Long.is)
