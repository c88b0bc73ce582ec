use Rattle.std.proofs.Common.{◌∙◌, ap, set, refl, arith}
use Rattle.cover_table.proofs.Forking.{chain_again', joined_right, same_length}
use Rattle.cover_table.proofs.Writing.{chain_within}
use Rattle.cover_table.proofs.tree.CellTree.join_right.Goals as goal

pub take-top-requires-clause-within : goal.take-top-requires-clause-within
take-top-requires-clause-within c =
    let ready = c.requires.ready.3 in
    chain_within c.args.self.now ready.free ready.holds.chain ready.holds.freed (omega (arith, c.requires.room))

pub take-leaf-requires-clause-within : goal.take-leaf-requires-clause-within
take-leaf-requires-clause-within c =
    let q = c.requires.ready in
    let e = c.take-top.ensures in
    chain_again' c.args.self.now c.take-top.new.self c.args.at _ q.0 q.1 q.2 q.3 e.nodes refl refl e.free e.freed c.requires.room

pub set_right-requires : goal.set_right-requires
set_right-requires c =
    let q = c.requires.ready in
    let e = c.take-top.ensures in
    let f = c.take-leaf.ensures in
    let first = same_length c.take-top.new.self.nodes.items c.args.self.now.nodes.items c.args.self.now.free _ e.nodes in
    let second = same_length c.take-leaf.new.self.nodes.items c.take-top.new.self.nodes.items c.take-top.new.self.free _ f.nodes in
    let within = chain_within c.args.self.now q.3.free q.3.holds.chain q.3.holds.freed (omega (arith, c.requires.room)) in
    omega (arith, first, second, within, e.place)

pub returns-clause-results : goal.returns-clause-results
returns-clause-results c w low d inner side ready =
    let e = c.take-top.ensures in
    let f = c.take-leaf.ensures in
    let g = c.set_right.ensures in
    joined_right c.args.self.now c.take-top.new.self c.take-leaf.new.self c.set_right.new.self w low d c.args.at c.args.fork
    c.args.entry.now c.take-top.result c.take-leaf.result e.place f.place inner e.free e.freed
    (f.nodes ∙ ap (λ n. set c.take-top.new.self.nodes.items c.take-top.new.self.free n) c.leaf.ensures) f.free f.freed
    g.free g.freed ready.tree e.nodes g.nodes side ready.ordered ready.free ready.holds
