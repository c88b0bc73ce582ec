use Rattle.std.proofs.Common.{ap, arith}
use Rattle.cover_table.specs.declared.nodes.Node.{Node}
use Rattle.cover_table.specs.NodeLists.{NodeState, highest_of}
use Rattle.cover_table.proofs.node_list.NodeList.get.Goals as goal

pub returns-in-Short-clause-fits : goal.returns-in-Short-clause-fits
returns-in-Short-clause-fits c =
    let node = ap (λ (n : Node). n.entry.bits) c.node.ensures in
    let highest = ap (λ (s : NodeState). s.highest) c.self.view_is in
    let most = ap highest_of c.in-Short.is in
    omega (arith, node, c.wide.ensures.within, highest, most)
