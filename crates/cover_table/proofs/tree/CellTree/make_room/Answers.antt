use Rattle.std.proofs.Common.{refl}
use Rattle.cover_table.proofs.Whole.{roomier_tree, roomier_whole}
use Rattle.cover_table.proofs.tree.CellTree.make_room.Goals as goal

pub returns-clause-whole : goal.returns-clause-whole
returns-clause-whole c w whole =
    roomier_whole c.args.self.now (record c.args.self.now { nodes = c.make_room.new.self }) w c.make_room.ensures.items
    refl refl refl whole

pub returns-clause-tree : goal.returns-clause-tree
returns-clause-tree c =
    roomier_tree c.args.self.now (record c.args.self.now { nodes = c.make_room.new.self }) c.make_room.ensures.items refl
