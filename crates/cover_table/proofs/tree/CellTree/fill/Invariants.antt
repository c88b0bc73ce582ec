use Rattle.std.proofs.Common.{◌≡◌, ◌-◌}
use Rattle.cover_table.specs.Trees.{IsWhole, spare_nodes, tree_of}
use Rattle.cover_table.proofs.tree.CellTree.fill.Given as goal

-- the tree is as it was, and there is room for what is wanting
abbrev pub invariant-loop-self : goal.invariant-loop-self
invariant-loop-self l = record {
  whole : IsWhole l.width l.self;
  tree : tree_of l.self ≡ tree_of l.fn.self;
  highest : l.self.nodes.highest ≡ l.fn.self.nodes.highest;
  spare : spare_nodes l.self ≡ spare_nodes l.fn.self;
}

abbrev pub decreases-loop-self : goal.decreases-loop-self
decreases-loop-self l = l.nodes - l.self.freed
