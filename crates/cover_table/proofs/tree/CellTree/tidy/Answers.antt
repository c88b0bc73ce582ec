use Rattle.std.proofs.Common.{sym, ◌∙◌, arith}
use Rattle.cover_table.proofs.Standing.{at_place}
use Rattle.cover_table.proofs.Writing.{given_left, given_right}
use Rattle.cover_table.proofs.tree.CellTree.tidy.Goals as goal

pub returns-then-node-clause-results : goal.returns-then-node-clause-results
returns-then-node-clause-results c w low d ready =
    given_right c.args.self.now c.give.new.self w low d c.args.at c.get-node.result
    (at_place c.args.self.now.nodes.items c.args.at c.get-node.result c.requires.at c.get-node.ensures.node)
    (omega (arith, ready.holds.numbered))
    (sym c.is_empty.ensures ∙ c.if-not-is_empty.false)
    c.give.ensures.nodes c.give.ensures.free c.give.ensures.freed ready c.if-node.true

pub returns-then-node-2-clause-results : goal.returns-then-node-2-clause-results
returns-then-node-2-clause-results c w low d ready =
    let step = c.give-then-node-2 in
    given_left c.args.self.now step.new.self w low d c.args.at c.get-node.result
    (at_place c.args.self.now.nodes.items c.args.at c.get-node.result c.requires.at c.get-node.ensures.node)
    (omega (arith, ready.holds.numbered))
    (sym c.is_empty.ensures ∙ c.if-not-is_empty.false)
    step.ensures.nodes step.ensures.free step.ensures.freed ready c.if-node-2.true
