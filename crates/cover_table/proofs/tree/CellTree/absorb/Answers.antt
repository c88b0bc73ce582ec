use Rattle.std.proofs.Common.{◌∙◌, ap, arith}
use Rattle.cover_table.specs.Rows.{rows_written}
use Rattle.cover_table.specs.Trees.{change_for, rows_of}
use Rattle.cover_table.proofs.Whole.{absorbed_rows, absorbed_spare, absorbed_whole}
use Rattle.cover_table.proofs.tree.CellTree.absorb.Goals as goal

pub returns-clause-whole : goal.returns-clause-whole
returns-clause-whole c =
    absorbed_whole c.fill.new.self c.write-self.new.self c.args.width c.write-self.result c.args.entry.now c.requires.width
    c.fill.ensures.whole c.write-self.ensures.results

pub returns-clause-rows : goal.returns-clause-rows
returns-clause-rows c =
    absorbed_rows c.fill.new.self c.write-self.new.self c.args.width c.write-self.result c.args.entry.now c.requires.width
    c.fill.ensures.whole c.write-self.ensures.results
    ∙ ap (λ t. rows_written (change_for c.args.width c.args.entry.now) (rows_of c.args.width t)) c.fill.ensures.tree

pub returns-clause-spare : goal.returns-clause-spare
returns-clause-spare c =
    let spare =
    absorbed_spare c.fill.new.self c.write-self.new.self c.args.width c.write-self.result c.args.entry.now
    c.requires.width c.fill.ensures.whole c.write-self.ensures.results c.write-self.ensures.room in
    omega (arith, spare, c.fill.ensures.spare)
