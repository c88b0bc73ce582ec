use Rattle.std.proofs.Common.{refl}
use Rattle.cover_table.proofs.Whole.{empty_rows, empty_whole}
use Rattle.cover_table.proofs.tree.CellTree.new.Goals as goal

pub returns-clause-whole : goal.returns-clause-whole
returns-clause-whole c w = empty_whole _ c.requires refl refl refl w

pub returns-clause-rows : goal.returns-clause-rows
returns-clause-rows c w = empty_rows _ c.requires w
