use Rattle.std.proofs.Common.{◌-◌}
use Rattle.cover_table.proofs.tree.CellTree.+look.Given as goal

-- the tree below a node has longer prefixes
abbrev pub decreases-look : goal.decreases-look
decreases-look g l = 130 - l.depth
