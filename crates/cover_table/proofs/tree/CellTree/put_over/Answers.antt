use Rattle.std.proofs.Common.{◌<◌, sym, ◌∙◌, ap, subst, arith}
use Rattle.cover_table.specs.declared.nodes.Node.{Node}
use Rattle.cover_table.specs.Trees.{AreApart}
use Rattle.cover_table.proofs.Blocks.{fork_fits, half_is}
use Rattle.cover_table.proofs.Joining.{node_within, over_left, over_none, over_right}
use Rattle.cover_table.proofs.Apart.{apart_longer, fails, holds}
use Rattle.cover_table.proofs.Standing.{at_place}
use Rattle.cover_table.proofs.Writing.{chain_within}
use Rattle.cover_table.proofs.tree.CellTree.put_over.Goals as goal

pub put_beside-requires-clause-beside : goal.put_beside-requires-clause-beside
put_beside-requires-clause-beside c other =
    let node = c.get-node.result in
    let here = at_place c.args.self.now.nodes.items c.args.at node c.requires.at c.get-node.ensures.node in
    let ready = c.requires.ready in
    let within = node_within c.args.self.now c.args.width c.args.low c.args.depth c.args.at node here
    (omega (arith, ready.holds.numbered, c.requires.at)) ready in
    let longer = c.requires.longer node in
    let is = ap (λ (n : Node). n.entry.len) (here.here node) in
    subst (λ (n : Node). AreApart c.args.width n.entry c.args.entry.now) (sym (here.here other))
    (apart_longer c.args.width node.entry c.args.entry.now within.within within.zeros c.requires.within.zeros
    (omega (arith, longer, is)) (fails c.covers.result _ c.covers.ensures c.if-not-covers.true))

pub returns-then-is_empty-clause-results : goal.returns-then-is_empty-clause-results
returns-then-is_empty-clause-results c ready =
    let node = c.get-node.result in
    let here = at_place c.args.self.now.nodes.items c.args.at node c.requires.at c.get-node.ensures.node in
    let longer = c.requires.longer node in
    let is = ap (λ (n : Node). n.entry.len) (here.here node) in
    let covers = holds c.covers.result _ c.covers.ensures c.if-not-covers.false in
    over_none c.args.self.now c.args.width c.args.low c.args.depth c.args.at c.args.entry.now node here
    (omega (arith, ready.holds.numbered, c.requires.at)) c.requires.within (omega (arith, longer, is)) covers.0
    (sym c.is_empty.ensures ∙ c.if-is_empty.true) ready

pub half-requires-clause-some : goal.half-requires-clause-some
half-requires-clause-some c =
    let node = c.get-node.result in
    let here = at_place c.args.self.now.nodes.items c.args.at node c.requires.at c.get-node.ensures.node in
    let ready = c.requires.ready in
    let within = node_within c.args.self.now c.args.width c.args.low c.args.depth c.args.at node here
    (omega (arith, ready.holds.numbered, c.requires.at)) ready in
    let longer = c.requires.longer node in
    let is = ap (λ (n : Node). n.entry.len) (here.here node) in
    omega (arith, longer, is, within.within)

pub overflow_add-middle : goal.overflow_add-middle
overflow_add-middle c =
    let node = c.get-node.result in
    let here = at_place c.args.self.now.nodes.items c.args.at node c.requires.at c.get-node.ensures.node in
    let ready = c.requires.ready in
    let within = node_within c.args.self.now c.args.width c.args.low c.args.depth c.args.at node here
    (omega (arith, ready.holds.numbered, c.requires.at)) ready in
    let longer = c.requires.longer node in
    let is = ap (λ (n : Node). n.entry.len) (here.here node) in
    let more : c.args.entry.now.len < c.args.width = omega (arith, longer, is, within.within) in
    let fits = fork_fits c.args.width c.args.entry.now.len c.args.entry.now.bits more c.requires.width
    c.requires.within.zeros (omega arith) in
    omega (arith, fits, c.half.ensures)

pub take-requires-clause-within : goal.take-requires-clause-within
take-requires-clause-within c =
    let ready = c.requires.ready in
    chain_within c.args.self.now ready.free ready.holds.chain ready.holds.freed (omega (arith, c.requires.room))

pub take-requires-2-clause-within : goal.take-requires-2-clause-within
take-requires-2-clause-within c =
    let ready = c.requires.ready in
    chain_within c.args.self.now ready.free ready.holds.chain ready.holds.freed (omega (arith, c.requires.room))

pub returns-then-node-middle-clause-results : goal.returns-then-node-middle-clause-results
returns-then-node-middle-clause-results c ready =
    let node = c.get-node.result in
    let here = at_place c.args.self.now.nodes.items c.args.at node c.requires.at c.get-node.ensures.node in
    let longer = c.requires.longer node in
    let is = ap (λ (n : Node). n.entry.len) (here.here node) in
    let covers = holds c.covers.result _ c.covers.ensures c.if-not-covers.false in
    let half = half_is c.args.width c.args.entry.now.len in
    let e = c.take.ensures in
    over_left c.args.self.now c.args.width c.args.low c.args.depth c.args.at c.args.entry.now node here
    (omega (arith, ready.holds.numbered, c.requires.at)) c.requires.within (omega (arith, longer, is)) covers.0
    c.take.new.self c.take.result e.place e.free e.freed ready e.nodes
    (omega (arith, c.half.ensures, c.if-node-middle.true))

pub returns-clause-results : goal.returns-clause-results
returns-clause-results c ready =
    let node = c.get-node.result in
    let here = at_place c.args.self.now.nodes.items c.args.at node c.requires.at c.get-node.ensures.node in
    let longer = c.requires.longer node in
    let is = ap (λ (n : Node). n.entry.len) (here.here node) in
    let covers = holds c.covers.result _ c.covers.ensures c.if-not-covers.false in
    let half = half_is c.args.width c.args.entry.now.len in
    let e = c.take-2.ensures in
    over_right c.args.self.now c.args.width c.args.low c.args.depth c.args.at c.args.entry.now node here
    (omega (arith, ready.holds.numbered, c.requires.at)) c.requires.within (omega (arith, longer, is)) covers.0
    c.take-2.new.self c.take-2.result e.place e.free e.freed ready e.nodes
    (omega (arith, c.half.ensures, c.if-node-middle.false)) covers.1
