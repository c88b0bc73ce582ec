use Rattle.std.proofs.Common.{◌<◌, length, refl, ◌∙◌, arith}
use Rattle.cover_table.specs.Trees.{link_of, no_place}
use Rattle.cover_table.proofs.Whole.{added_length, added_tree, added_whole}
use Rattle.cover_table.proofs.tree.CellTree.fill.Goals as goal

pub loop-self-preserved : goal.loop-self-preserved
loop-self-preserved c =
    let old = c.loop-self.self in
    let e = c.add_free.ensures in
    let i = c.loop-self.invariant in
    let more = added_length old.nodes.items c.add_free.new.self.nodes.items _ e.nodes in
    let room : length old.nodes.items < no_place = omega (arith, e.numbers, more) in
    record {
      whole =
          added_whole old c.add_free.new.self c.args.width c.requires.width (link_of old.free) refl e.nodes e.free e.freed
          e.root room i.whole;
      tree =
          added_tree old c.add_free.new.self c.args.width c.requires.width (link_of old.free) refl e.nodes e.free e.freed
          e.root room i.whole
          ∙ i.tree;
      highest = e.highest ∙ i.highest;
      spare = omega (arith, i.spare, e.freed, e.room);
    }
