use Rattle.std.proofs.Common.{◌-◌}
use Rattle.cover_table.proofs.tree.CellTree.+write.Given as goal

-- the tree below a node has longer prefixes
abbrev pub decreases-write : goal.decreases-write
decreases-write l = 129 - l.depth
