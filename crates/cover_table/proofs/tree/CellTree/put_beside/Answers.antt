use Rattle.std.proofs.Common.{◌+◌, sym, ◌∙◌, subst, arith}
use Rattle.cover_table.specs.declared.nodes.Node.{Node}
use Rattle.cover_table.specs.Trees.{AreApart, size}
use Rattle.cover_table.proofs.Joining.{beside_left, beside_none, beside_right, moved_ready, node_within}
use Rattle.cover_table.proofs.Apart.{apart_above, apart_below}
use Rattle.cover_table.proofs.Standing.{at_place}
use Rattle.cover_table.proofs.tree.CellTree.put_beside.Goals as goal

pub returns-then-is_empty-clause-results : goal.returns-then-is_empty-clause-results
returns-then-is_empty-clause-results c ready =
    let node = c.get-node.result in
    let here = at_place c.args.self.now.nodes.items c.args.at node c.requires.at c.get-node.ensures.node in
    beside_none c.args.self.now c.args.width c.args.low c.args.depth c.args.at c.args.entry.now node here
    (omega (arith, ready.holds.numbered, c.requires.at)) c.requires.within
    (subst (λ (n : Node). AreApart c.args.width n.entry c.args.entry.now) (here.here node) (c.requires.beside node))
    (sym c.is_empty.ensures ∙ c.if-is_empty.true) ready

pub fork_of-fork-requires-clause-upper : goal.fork_of-fork-requires-clause-upper
fork_of-fork-requires-clause-upper c =
    let node = c.get-node.result in
    let here = at_place c.args.self.now.nodes.items c.args.at node c.requires.at c.get-node.ensures.node in
    let ready = c.requires.ready in
    node_within c.args.self.now c.args.width c.args.low c.args.depth c.args.at node here
    (omega (arith, ready.holds.numbered, c.requires.at)) ready

pub fork_of-fork-requires-clause-apart : goal.fork_of-fork-requires-clause-apart
fork_of-fork-requires-clause-apart c =
    let node = c.get-node.result in
    let here = at_place c.args.self.now.nodes.items c.args.at node c.requires.at c.get-node.ensures.node in
    apart_below c.args.width node.entry c.args.entry.now
    (subst (λ (n : Node). AreApart c.args.width n.entry c.args.entry.now) (here.here node) (c.requires.beside node))
    c.if-entry-node.true

pub returns-then-entry-node-clause-results : goal.returns-then-entry-node-clause-results
returns-then-entry-node-clause-results c ready =
    let node = c.get-node.result in
    let here = at_place c.args.self.now.nodes.items c.args.at node c.requires.at c.get-node.ensures.node in
    let f = c.fork_of-fork.ensures in
    let w = c.args.width in
    let fork = c.fork_of-fork.result in
    beside_left c.args.self.now w c.args.low c.args.depth c.args.at node here
    (omega (arith, ready.holds.numbered, c.requires.at)) ready c.join_left.new.self c.join_left.result fork
    c.args.entry.now f.empty c.if-entry-node.true
    (c.join_left.ensures.results w c.args.low c.args.depth f.within f.lower
    (moved_ready c.args.self.now w c.args.low c.args.depth c.args.at node here
    (omega (arith, ready.holds.numbered, c.requires.at)) ready (fork.bits + size w (fork.len + 1)) (fork.len + 1) f.upper))

pub fork_of-fork-requires-2-clause-lower : goal.fork_of-fork-requires-2-clause-lower
fork_of-fork-requires-2-clause-lower c =
    let node = c.get-node.result in
    let here = at_place c.args.self.now.nodes.items c.args.at node c.requires.at c.get-node.ensures.node in
    let ready = c.requires.ready in
    node_within c.args.self.now c.args.width c.args.low c.args.depth c.args.at node here
    (omega (arith, ready.holds.numbered, c.requires.at)) ready

pub fork_of-fork-requires-2-clause-apart : goal.fork_of-fork-requires-2-clause-apart
fork_of-fork-requires-2-clause-apart c =
    let node = c.get-node.result in
    let here = at_place c.args.self.now.nodes.items c.args.at node c.requires.at c.get-node.ensures.node in
    apart_above c.args.width node.entry c.args.entry.now
    (subst (λ (n : Node). AreApart c.args.width n.entry c.args.entry.now) (here.here node) (c.requires.beside node))
    c.if-entry-node.false

pub returns-clause-results : goal.returns-clause-results
returns-clause-results c ready =
    let node = c.get-node.result in
    let here = at_place c.args.self.now.nodes.items c.args.at node c.requires.at c.get-node.ensures.node in
    let f = c.fork_of-fork-2.ensures in
    let w = c.args.width in
    let fork = c.fork_of-fork-2.result in
    let past = apart_above w node.entry c.args.entry.now
    (subst (λ (n : Node). AreApart w n.entry c.args.entry.now) (here.here node) (c.requires.beside node))
    c.if-entry-node.false in
    beside_right c.args.self.now w c.args.low c.args.depth c.args.at node here
    (omega (arith, ready.holds.numbered, c.requires.at)) ready c.join_right.new.self c.join_right.result fork
    c.args.entry.now f.empty past
    (c.join_right.ensures.results w c.args.low c.args.depth f.within f.upper
    (moved_ready c.args.self.now w c.args.low c.args.depth c.args.at node here
    (omega (arith, ready.holds.numbered, c.requires.at)) ready fork.bits (fork.len + 1) f.lower))
