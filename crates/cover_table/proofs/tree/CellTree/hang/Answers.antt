use Rattle.std.proofs.Common.{sym, ◌∙◌, ap, set}
use Rattle.cover_table.proofs.Writing.{chain_within, hung, hung_none}
use Rattle.cover_table.proofs.tree.CellTree.hang.Goals as goal

pub returns-then-is_empty-clause-results : goal.returns-then-is_empty-clause-results
returns-then-is_empty-clause-results c ready =
    hung_none c.args.self.now c.args.width c.args.low c.args.depth c.args.entry.now
    (sym c.is_empty.ensures ∙ c.if-is_empty.true) ready

pub take-requires-clause-within : goal.take-requires-clause-within
take-requires-clause-within c =
    let ready = c.requires.ready in
    chain_within c.args.self.now ready.free ready.holds.chain ready.holds.freed c.requires.room

pub returns-clause-results : goal.returns-clause-results
returns-clause-results c ready =
    hung c.args.self.now c.take.new.self c.args.width c.args.low c.args.depth c.args.entry.now c.take.result
    c.take.ensures.place
    (c.take.ensures.nodes ∙ ap (λ n. set c.args.self.now.nodes.items c.args.self.now.free n) c.leaf.ensures)
    c.take.ensures.free c.take.ensures.freed c.requires.within ready
