use Rattle.std.proofs.Common.{refl}
use Rattle.cover_table.proofs.Whole.{roomier_tree, roomier_whole}
use Rattle.cover_table.proofs.tree.CellTree.lower_room.Goals as goal

pub returns-clause-whole : goal.returns-clause-whole
returns-clause-whole c w whole =
    roomier_whole c.args.self.now (record c.args.self.now { nodes = c.lower_room.new.self }) w c.lower_room.ensures.items
    refl refl refl whole

pub returns-clause-tree : goal.returns-clause-tree
returns-clause-tree c =
    roomier_tree c.args.self.now (record c.args.self.now { nodes = c.lower_room.new.self }) c.lower_room.ensures.items refl
