use Rattle.std.proofs.Common.{◌≡◌, ◌<◌, ◌≤◌, ◌+◌, sym, ap, subst, arith, length, rules}
use Rattle.urpf_base.specs.Address.{cleared}
use Rattle.cover_table.specs.Rows.{rows_written}
use Rattle.cover_table.specs.declared.nodes.Node.{Node}
use Rattle.cover_table.specs.Trees.{AreApart, IsReady, IsWithin, Results, change_for, rows_of, size, no_place}
use Rattle.cover_table.proofs.Blocks.{fork_fits, half_is}
use Rattle.cover_table.proofs.Descending.{left_whole, on_left, on_right, right_whole}
use Rattle.cover_table.proofs.Joining.{grown_left, grown_right, left_ready}
use Rattle.cover_table.proofs.Apart.{apart_longer, apart_turned, fails, holds}
use Rattle.cover_table.proofs.Joining.{node_within, rewritten, right_ready}
use Rattle.cover_table.proofs.Standing.{at_place, stands_within}
use Rattle.cover_table.proofs.Writing.{hung_at, results_ready, then_tidied}
use Rattle.cover_table.proofs.tree.CellTree.+write.Goals as goal

pub returns-then-at-eq-NONE-clause-results : goal.returns-then-at-eq-NONE-clause-results
returns-then-at-eq-NONE-clause-results t c ready =
    let none : c.args.at ≡ no_place = c.if-at-eq-NONE.true in
    hung_at c.args.self.now c.hang.new.self c.args.width c.args.low c.args.depth c.args.at c.hang.result c.args.entry.now none
    c.hang.ensures.results ready

pub get-node-requires : goal.get-node-requires
get-node-requires t c =
    let ready = c.requires.ready in
    let placed : c.args.at < length c.args.self.now.nodes.items =
    stands_within c.args.self.now.nodes.items c.args.at ready.tree ready.holds.stands c.if-at-eq-NONE.false in
    first_of (omega arith, search rules)

pub put_over-requires-clause-at : goal.put_over-requires-clause-at
put_over-requires-clause-at t c =
    let ready = c.requires.ready in
    let placed : c.args.at < length c.args.self.now.nodes.items =
    stands_within c.args.self.now.nodes.items c.args.at ready.tree ready.holds.stands c.if-at-eq-NONE.false in
    placed

pub put_over-requires-clause-longer : goal.put_over-requires-clause-longer
put_over-requires-clause-longer t c other =
    let ready = c.requires.ready in
    let node = c.get-node.result in
    let placed : c.args.at < length c.args.self.now.nodes.items =
    stands_within c.args.self.now.nodes.items c.args.at ready.tree ready.holds.stands c.if-at-eq-NONE.false in
    let here = at_place c.args.self.now.nodes.items c.args.at node placed c.get-node.ensures.node in
    let outer = node_within c.args.self.now c.args.width c.args.low c.args.depth c.args.at node here c.if-at-eq-NONE.false ready in
    let is = ap (λ (n : Node). n.entry.len) (here.here other) in
    omega (arith, is, c.if-node-entry.true)

pub put_beside-requires-clause-at : goal.put_beside-requires-clause-at
put_beside-requires-clause-at t c =
    let ready = c.requires.ready in
    let placed : c.args.at < length c.args.self.now.nodes.items =
    stands_within c.args.self.now.nodes.items c.args.at ready.tree ready.holds.stands c.if-at-eq-NONE.false in
    placed

pub put_beside-requires-clause-beside : goal.put_beside-requires-clause-beside
put_beside-requires-clause-beside t c other =
    let ready = c.requires.ready in
    let node = c.get-node.result in
    let placed : c.args.at < length c.args.self.now.nodes.items =
    stands_within c.args.self.now.nodes.items c.args.at ready.tree ready.holds.stands c.if-at-eq-NONE.false in
    let here = at_place c.args.self.now.nodes.items c.args.at node placed c.get-node.ensures.node in
    let outer = node_within c.args.self.now c.args.width c.args.low c.args.depth c.args.at node here c.if-at-eq-NONE.false ready in
    subst (λ (n : Node). AreApart c.args.width n.entry c.args.entry.now) (sym (here.here other))
    (apart_turned c.args.width c.args.entry.now node.entry
    (apart_longer c.args.width c.args.entry.now node.entry c.requires.within.within c.requires.within.zeros outer.zeros
    (omega (arith, c.if-node-entry.false)) (fails c.covers.result _ c.covers.ensures c.if-not-covers.true)))

pub set_entry-requires-clause-within : goal.set_entry-requires-clause-within
set_entry-requires-clause-within t c =
    let ready = c.requires.ready in
    let placed : c.args.at < length c.args.self.now.nodes.items =
    stands_within c.args.self.now.nodes.items c.args.at ready.tree ready.holds.stands c.if-at-eq-NONE.false in
    placed

pub tidy-requires-clause-ready : goal.tidy-requires-clause-ready
tidy-requires-clause-ready t c =
    let ready = c.requires.ready in
    let node = c.get-node.result in
    let placed : c.args.at < length c.args.self.now.nodes.items =
    stands_within c.args.self.now.nodes.items c.args.at ready.tree ready.holds.stands c.if-at-eq-NONE.false in
    let here = at_place c.args.self.now.nodes.items c.args.at node placed c.get-node.ensures.node in
    let outer = node_within c.args.self.now c.args.width c.args.low c.args.depth c.args.at node here c.if-at-eq-NONE.false ready in
    let covers = holds c.covers.result _ c.covers.ensures c.if-not-covers.false in
    let done = rewritten c.args.self.now c.args.width c.args.low c.args.depth c.args.at node here c.if-at-eq-NONE.false ready c.set_entry.new.self c.args.entry.now c.requires.within
    c.if-node-entry-2.true covers.0 covers.1 c.set_entry.ensures.nodes c.set_entry.ensures.free c.set_entry.ensures.freed in (
      c.args.width,
      c.args.low,
      c.args.depth,
      results_ready c.args.self.now c.set_entry.new.self c.args.width c.args.low c.args.depth ready.tree ready.free
          c.args.at c.args.at (rows_written (change_for c.args.width c.args.entry.now) (rows_of c.args.width ready.tree)) 2
          ready.holds done,
    )

pub tidy-requires-clause-at : goal.tidy-requires-clause-at
tidy-requires-clause-at t c =
    let ready = c.requires.ready in
    let node = c.get-node.result in
    let placed : c.args.at < length c.args.self.now.nodes.items =
    stands_within c.args.self.now.nodes.items c.args.at ready.tree ready.holds.stands c.if-at-eq-NONE.false in
    let here = at_place c.args.self.now.nodes.items c.args.at node placed c.get-node.ensures.node in
    let outer = node_within c.args.self.now c.args.width c.args.low c.args.depth c.args.at node here c.if-at-eq-NONE.false ready in
    let covers = holds c.covers.result _ c.covers.ensures c.if-not-covers.false in
    let done = rewritten c.args.self.now c.args.width c.args.low c.args.depth c.args.at node here c.if-at-eq-NONE.false ready c.set_entry.new.self c.args.entry.now c.requires.within
    c.if-node-entry-2.true covers.0 covers.1 c.set_entry.ensures.nodes c.set_entry.ensures.free c.set_entry.ensures.freed in
    let same = done.turns.length in omega (arith, same, placed)

pub returns-then-node-entry-2-clause-results : goal.returns-then-node-entry-2-clause-results
returns-then-node-entry-2-clause-results t c ready =
    let node = c.get-node.result in
    let placed : c.args.at < length c.args.self.now.nodes.items =
    stands_within c.args.self.now.nodes.items c.args.at ready.tree ready.holds.stands c.if-at-eq-NONE.false in
    let here = at_place c.args.self.now.nodes.items c.args.at node placed c.get-node.ensures.node in
    let outer = node_within c.args.self.now c.args.width c.args.low c.args.depth c.args.at node here c.if-at-eq-NONE.false ready in
    let covers = holds c.covers.result _ c.covers.ensures c.if-not-covers.false in
    let done = rewritten c.args.self.now c.args.width c.args.low c.args.depth c.args.at node here c.if-at-eq-NONE.false ready c.set_entry.new.self c.args.entry.now c.requires.within
    c.if-node-entry-2.true covers.0 covers.1 c.set_entry.ensures.nodes c.set_entry.ensures.free c.set_entry.ensures.freed in
    then_tidied c.args.self.now c.set_entry.new.self c.tidy.new.self c.args.width c.args.low c.args.depth ready.tree ready.free c.args.at
    c.tidy.result (rows_written (change_for c.args.width c.args.entry.now) (rows_of c.args.width ready.tree)) 2 ready.holds done
    (c.tidy.ensures.results c.args.width c.args.low c.args.depth)

pub overflow_add-middle : goal.overflow_add-middle
overflow_add-middle t c =
    let ready = c.requires.ready in
    let node = c.get-node.result in
    let placed : c.args.at < length c.args.self.now.nodes.items =
    stands_within c.args.self.now.nodes.items c.args.at ready.tree ready.holds.stands c.if-at-eq-NONE.false in
    let here = at_place c.args.self.now.nodes.items c.args.at node placed c.get-node.ensures.node in
    let outer = node_within c.args.self.now c.args.width c.args.low c.args.depth c.args.at node here c.if-at-eq-NONE.false ready in
    let covers = holds c.covers.result _ c.covers.ensures c.if-not-covers.false in
    let longer : node.entry.len < c.args.entry.now.len = omega (arith, c.if-node-entry.false, c.if-node-entry-2.false) in
    let half = half_is c.args.width node.entry.len in
    let more : node.entry.len < c.args.width = omega (arith, longer, c.requires.within.within) in
    let fits = fork_fits c.args.width node.entry.len node.entry.bits more c.requires.width outer.zeros
    (omega arith) in
    omega (arith, fits, c.half.ensures)

pub write-child-requires : goal.write-child-requires
write-child-requires t c =
    let ready = c.requires.ready in
    let node = c.get-node.result in
    let placed : c.args.at < length c.args.self.now.nodes.items =
    stands_within c.args.self.now.nodes.items c.args.at ready.tree ready.holds.stands c.if-at-eq-NONE.false in
    let here = at_place c.args.self.now.nodes.items c.args.at node placed c.get-node.ensures.node in
    let outer = node_within c.args.self.now c.args.width c.args.low c.args.depth c.args.at node here c.if-at-eq-NONE.false ready in
    let covers = holds c.covers.result _ c.covers.ensures c.if-not-covers.false in
    let longer : node.entry.len < c.args.entry.now.len = omega (arith, c.if-node-entry.false, c.if-node-entry-2.false) in
    let half = half_is c.args.width node.entry.len in
    let less : c.args.entry.now.bits < node.entry.bits + size c.args.width (node.entry.len + 1) =
    omega (arith, half, c.half.ensures, c.if-entry-middle.true) in (
      omega (arith, longer, outer.deeper, outer.within, c.requires.width, c.decreases),
      (
        c.requires.width,
        (
          left_ready c.args.self.now c.args.width c.args.low c.args.depth c.args.at node here c.if-at-eq-NONE.false ready,
          (on_left c.args.width c.args.low c.args.depth node.entry c.args.entry.now outer c.requires.within longer covers.0 covers.1 less, (left_whole c.args.width c.args.low c.args.depth node.entry c.args.entry.now outer c.requires.within longer covers.0 covers.1, (c.requires.room, c.requires.fits))),
        ),
      ),
    )

pub set_left-requires : goal.set_left-requires
set_left-requires t c =
    let ready = c.requires.ready in
    let node = c.get-node.result in
    let placed : c.args.at < length c.args.self.now.nodes.items =
    stands_within c.args.self.now.nodes.items c.args.at ready.tree ready.holds.stands c.if-at-eq-NONE.false in
    let here = at_place c.args.self.now.nodes.items c.args.at node placed c.get-node.ensures.node in
    let outer = node_within c.args.self.now c.args.width c.args.low c.args.depth c.args.at node here c.if-at-eq-NONE.false ready in
    let own = left_ready c.args.self.now c.args.width c.args.low c.args.depth c.args.at node here c.if-at-eq-NONE.false ready in
    let grown = c.write-child.ensures.results own in
    omega (arith, grown.turns.length, placed)

pub tidy-requires-then-entry-middle-clause-ready : goal.tidy-requires-then-entry-middle-clause-ready
tidy-requires-then-entry-middle-clause-ready t c =
    let ready = c.requires.ready in
    let node = c.get-node.result in
    let placed : c.args.at < length c.args.self.now.nodes.items =
    stands_within c.args.self.now.nodes.items c.args.at ready.tree ready.holds.stands c.if-at-eq-NONE.false in
    let here = at_place c.args.self.now.nodes.items c.args.at node placed c.get-node.ensures.node in
    let outer = node_within c.args.self.now c.args.width c.args.low c.args.depth c.args.at node here c.if-at-eq-NONE.false ready in
    let covers = holds c.covers.result _ c.covers.ensures c.if-not-covers.false in
    let longer : node.entry.len < c.args.entry.now.len = omega (arith, c.if-node-entry.false, c.if-node-entry-2.false) in
    let half = half_is c.args.width node.entry.len in
    let less : c.args.entry.now.bits < node.entry.bits + size c.args.width (node.entry.len + 1) =
    omega (arith, half, c.half.ensures, c.if-entry-middle.true) in
    let done = grown_left c.args.self.now c.args.width c.args.low c.args.depth c.args.at node here c.if-at-eq-NONE.false ready c.write-child.new.self c.set_left.new.self
    c.write-child.result c.args.entry.now c.requires.within longer covers.0 c.set_left.ensures.free c.set_left.ensures.freed
    less c.write-child.ensures.results c.set_left.ensures.nodes in (
      c.args.width,
      c.args.low,
      c.args.depth,
      results_ready c.args.self.now c.set_left.new.self c.args.width c.args.low c.args.depth ready.tree ready.free
          c.args.at c.args.at (rows_written (change_for c.args.width c.args.entry.now) (rows_of c.args.width ready.tree)) 2
          ready.holds done,
    )

pub tidy-requires-then-entry-middle-clause-at : goal.tidy-requires-then-entry-middle-clause-at
tidy-requires-then-entry-middle-clause-at t c =
    let ready = c.requires.ready in
    let node = c.get-node.result in
    let placed : c.args.at < length c.args.self.now.nodes.items =
    stands_within c.args.self.now.nodes.items c.args.at ready.tree ready.holds.stands c.if-at-eq-NONE.false in
    let here = at_place c.args.self.now.nodes.items c.args.at node placed c.get-node.ensures.node in
    let outer = node_within c.args.self.now c.args.width c.args.low c.args.depth c.args.at node here c.if-at-eq-NONE.false ready in
    let covers = holds c.covers.result _ c.covers.ensures c.if-not-covers.false in
    let longer : node.entry.len < c.args.entry.now.len = omega (arith, c.if-node-entry.false, c.if-node-entry-2.false) in
    let half = half_is c.args.width node.entry.len in
    let less : c.args.entry.now.bits < node.entry.bits + size c.args.width (node.entry.len + 1) =
    omega (arith, half, c.half.ensures, c.if-entry-middle.true) in
    let done = grown_left c.args.self.now c.args.width c.args.low c.args.depth c.args.at node here c.if-at-eq-NONE.false ready c.write-child.new.self c.set_left.new.self
    c.write-child.result c.args.entry.now c.requires.within longer covers.0 c.set_left.ensures.free c.set_left.ensures.freed
    less c.write-child.ensures.results c.set_left.ensures.nodes in
    let same = done.turns.length in omega (arith, same, placed)

pub returns-then-entry-middle-clause-results : goal.returns-then-entry-middle-clause-results
returns-then-entry-middle-clause-results t c ready =
    let node = c.get-node.result in
    let placed : c.args.at < length c.args.self.now.nodes.items =
    stands_within c.args.self.now.nodes.items c.args.at ready.tree ready.holds.stands c.if-at-eq-NONE.false in
    let here = at_place c.args.self.now.nodes.items c.args.at node placed c.get-node.ensures.node in
    let outer = node_within c.args.self.now c.args.width c.args.low c.args.depth c.args.at node here c.if-at-eq-NONE.false ready in
    let covers = holds c.covers.result _ c.covers.ensures c.if-not-covers.false in
    let longer : node.entry.len < c.args.entry.now.len = omega (arith, c.if-node-entry.false, c.if-node-entry-2.false) in
    let half = half_is c.args.width node.entry.len in
    let less : c.args.entry.now.bits < node.entry.bits + size c.args.width (node.entry.len + 1) =
    omega (arith, half, c.half.ensures, c.if-entry-middle.true) in
    let done = grown_left c.args.self.now c.args.width c.args.low c.args.depth c.args.at node here c.if-at-eq-NONE.false ready c.write-child.new.self c.set_left.new.self
    c.write-child.result c.args.entry.now c.requires.within longer covers.0 c.set_left.ensures.free c.set_left.ensures.freed
    less c.write-child.ensures.results c.set_left.ensures.nodes in
    then_tidied c.args.self.now c.set_left.new.self c.tidy-then-entry-middle.new.self c.args.width c.args.low c.args.depth ready.tree ready.free c.args.at
    c.tidy-then-entry-middle.result (rows_written (change_for c.args.width c.args.entry.now) (rows_of c.args.width ready.tree)) 2 ready.holds done
    (c.tidy-then-entry-middle.ensures.results c.args.width c.args.low c.args.depth)

pub write-child-requires-2 : goal.write-child-requires-2
write-child-requires-2 t c =
    let ready = c.requires.ready in
    let node = c.get-node.result in
    let placed : c.args.at < length c.args.self.now.nodes.items =
    stands_within c.args.self.now.nodes.items c.args.at ready.tree ready.holds.stands c.if-at-eq-NONE.false in
    let here = at_place c.args.self.now.nodes.items c.args.at node placed c.get-node.ensures.node in
    let outer = node_within c.args.self.now c.args.width c.args.low c.args.depth c.args.at node here c.if-at-eq-NONE.false ready in
    let covers = holds c.covers.result _ c.covers.ensures c.if-not-covers.false in
    let longer : node.entry.len < c.args.entry.now.len = omega (arith, c.if-node-entry.false, c.if-node-entry-2.false) in
    let half = half_is c.args.width node.entry.len in
    let past : node.entry.bits + size c.args.width (node.entry.len + 1) ≤ c.args.entry.now.bits =
    omega (arith, half, c.half.ensures, c.if-entry-middle.false) in
    let middle : node.entry.bits + size c.args.width (node.entry.len + 1) ≡ node.entry.bits + c.half.result =
    omega (arith, half, c.half.ensures) in (
      omega (arith, longer, outer.deeper, outer.within, c.requires.width, c.decreases),
      (
        c.requires.width,
        (
          subst (λ m. IsReady c.args.self.now c.args.width node.right m (node.entry.len + 1)) middle
              (right_ready c.args.self.now c.args.width c.args.low c.args.depth c.args.at node here c.if-at-eq-NONE.false ready),
          (
            subst (λ m. IsWithin c.args.width m (node.entry.len + 1) c.args.entry.now) middle (on_right c.args.width c.args.low c.args.depth node.entry c.args.entry.now outer c.requires.within longer covers.0 covers.1 past),
            (subst (λ m. cleared c.args.width (node.entry.len + 1) m ≡ m) middle (right_whole c.args.width c.args.low c.args.depth node.entry c.args.entry.now outer c.requires.within longer covers.0 covers.1), (c.requires.room, c.requires.fits)),
          ),
        ),
      ),
    )

pub set_right-requires : goal.set_right-requires
set_right-requires t c =
    let ready = c.requires.ready in
    let node = c.get-node.result in
    let placed : c.args.at < length c.args.self.now.nodes.items =
    stands_within c.args.self.now.nodes.items c.args.at ready.tree ready.holds.stands c.if-at-eq-NONE.false in
    let here = at_place c.args.self.now.nodes.items c.args.at node placed c.get-node.ensures.node in
    let outer = node_within c.args.self.now c.args.width c.args.low c.args.depth c.args.at node here c.if-at-eq-NONE.false ready in
    let covers = holds c.covers.result _ c.covers.ensures c.if-not-covers.false in
    let longer : node.entry.len < c.args.entry.now.len = omega (arith, c.if-node-entry.false, c.if-node-entry-2.false) in
    let half = half_is c.args.width node.entry.len in
    let past : node.entry.bits + size c.args.width (node.entry.len + 1) ≤ c.args.entry.now.bits =
    omega (arith, half, c.half.ensures, c.if-entry-middle.false) in
    let middle : node.entry.bits + size c.args.width (node.entry.len + 1) ≡ node.entry.bits + c.half.result =
    omega (arith, half, c.half.ensures) in
    let call : (own : IsReady c.args.self.now c.args.width node.right (node.entry.bits + size c.args.width (node.entry.len + 1)) (node.entry.len + 1))
    → Results c.args.self.now c.write-child-2.new.self c.args.width (node.entry.bits + size c.args.width (node.entry.len + 1))
    (node.entry.len + 1) own.tree own.free c.write-child-2.result
    (rows_written (change_for c.args.width c.args.entry.now) (rows_of c.args.width own.tree)) 2 =
    subst (λ m. (own : IsReady c.args.self.now c.args.width node.right m (node.entry.len + 1))
    → Results c.args.self.now c.write-child-2.new.self c.args.width m (node.entry.len + 1) own.tree own.free
    c.write-child-2.result (rows_written (change_for c.args.width c.args.entry.now) (rows_of c.args.width own.tree)) 2)
    (sym middle) c.write-child-2.ensures.results in
    let grown = call (right_ready c.args.self.now c.args.width c.args.low c.args.depth c.args.at node here c.if-at-eq-NONE.false ready) in
    omega (arith, grown.turns.length, placed)

pub tidy-requires-2-clause-ready : goal.tidy-requires-2-clause-ready
tidy-requires-2-clause-ready t c =
    let ready = c.requires.ready in
    let node = c.get-node.result in
    let placed : c.args.at < length c.args.self.now.nodes.items =
    stands_within c.args.self.now.nodes.items c.args.at ready.tree ready.holds.stands c.if-at-eq-NONE.false in
    let here = at_place c.args.self.now.nodes.items c.args.at node placed c.get-node.ensures.node in
    let outer = node_within c.args.self.now c.args.width c.args.low c.args.depth c.args.at node here c.if-at-eq-NONE.false ready in
    let covers = holds c.covers.result _ c.covers.ensures c.if-not-covers.false in
    let longer : node.entry.len < c.args.entry.now.len = omega (arith, c.if-node-entry.false, c.if-node-entry-2.false) in
    let half = half_is c.args.width node.entry.len in
    let past : node.entry.bits + size c.args.width (node.entry.len + 1) ≤ c.args.entry.now.bits =
    omega (arith, half, c.half.ensures, c.if-entry-middle.false) in
    let middle : node.entry.bits + size c.args.width (node.entry.len + 1) ≡ node.entry.bits + c.half.result =
    omega (arith, half, c.half.ensures) in
    let call : (own : IsReady c.args.self.now c.args.width node.right (node.entry.bits + size c.args.width (node.entry.len + 1)) (node.entry.len + 1))
    → Results c.args.self.now c.write-child-2.new.self c.args.width (node.entry.bits + size c.args.width (node.entry.len + 1))
    (node.entry.len + 1) own.tree own.free c.write-child-2.result
    (rows_written (change_for c.args.width c.args.entry.now) (rows_of c.args.width own.tree)) 2 =
    subst (λ m. (own : IsReady c.args.self.now c.args.width node.right m (node.entry.len + 1))
    → Results c.args.self.now c.write-child-2.new.self c.args.width m (node.entry.len + 1) own.tree own.free
    c.write-child-2.result (rows_written (change_for c.args.width c.args.entry.now) (rows_of c.args.width own.tree)) 2)
    (sym middle) c.write-child-2.ensures.results in
    let done = grown_right c.args.self.now c.args.width c.args.low c.args.depth c.args.at node here c.if-at-eq-NONE.false ready c.write-child-2.new.self c.set_right.new.self
    c.write-child-2.result c.args.entry.now c.requires.within longer covers.0 c.set_right.ensures.free
    c.set_right.ensures.freed past call c.set_right.ensures.nodes in (
      c.args.width,
      c.args.low,
      c.args.depth,
      results_ready c.args.self.now c.set_right.new.self c.args.width c.args.low c.args.depth ready.tree ready.free
          c.args.at c.args.at (rows_written (change_for c.args.width c.args.entry.now) (rows_of c.args.width ready.tree)) 2
          ready.holds done,
    )

pub tidy-requires-2-clause-at : goal.tidy-requires-2-clause-at
tidy-requires-2-clause-at t c =
    let ready = c.requires.ready in
    let node = c.get-node.result in
    let placed : c.args.at < length c.args.self.now.nodes.items =
    stands_within c.args.self.now.nodes.items c.args.at ready.tree ready.holds.stands c.if-at-eq-NONE.false in
    let here = at_place c.args.self.now.nodes.items c.args.at node placed c.get-node.ensures.node in
    let outer = node_within c.args.self.now c.args.width c.args.low c.args.depth c.args.at node here c.if-at-eq-NONE.false ready in
    let covers = holds c.covers.result _ c.covers.ensures c.if-not-covers.false in
    let longer : node.entry.len < c.args.entry.now.len = omega (arith, c.if-node-entry.false, c.if-node-entry-2.false) in
    let half = half_is c.args.width node.entry.len in
    let past : node.entry.bits + size c.args.width (node.entry.len + 1) ≤ c.args.entry.now.bits =
    omega (arith, half, c.half.ensures, c.if-entry-middle.false) in
    let middle : node.entry.bits + size c.args.width (node.entry.len + 1) ≡ node.entry.bits + c.half.result =
    omega (arith, half, c.half.ensures) in
    let call : (own : IsReady c.args.self.now c.args.width node.right (node.entry.bits + size c.args.width (node.entry.len + 1)) (node.entry.len + 1))
    → Results c.args.self.now c.write-child-2.new.self c.args.width (node.entry.bits + size c.args.width (node.entry.len + 1))
    (node.entry.len + 1) own.tree own.free c.write-child-2.result
    (rows_written (change_for c.args.width c.args.entry.now) (rows_of c.args.width own.tree)) 2 =
    subst (λ m. (own : IsReady c.args.self.now c.args.width node.right m (node.entry.len + 1))
    → Results c.args.self.now c.write-child-2.new.self c.args.width m (node.entry.len + 1) own.tree own.free
    c.write-child-2.result (rows_written (change_for c.args.width c.args.entry.now) (rows_of c.args.width own.tree)) 2)
    (sym middle) c.write-child-2.ensures.results in
    let done = grown_right c.args.self.now c.args.width c.args.low c.args.depth c.args.at node here c.if-at-eq-NONE.false ready c.write-child-2.new.self c.set_right.new.self
    c.write-child-2.result c.args.entry.now c.requires.within longer covers.0 c.set_right.ensures.free
    c.set_right.ensures.freed past call c.set_right.ensures.nodes in
    let same = done.turns.length in omega (arith, same, placed)

pub returns-clause-results : goal.returns-clause-results
returns-clause-results t c ready =
    let node = c.get-node.result in
    let placed : c.args.at < length c.args.self.now.nodes.items =
    stands_within c.args.self.now.nodes.items c.args.at ready.tree ready.holds.stands c.if-at-eq-NONE.false in
    let here = at_place c.args.self.now.nodes.items c.args.at node placed c.get-node.ensures.node in
    let outer = node_within c.args.self.now c.args.width c.args.low c.args.depth c.args.at node here c.if-at-eq-NONE.false ready in
    let covers = holds c.covers.result _ c.covers.ensures c.if-not-covers.false in
    let longer : node.entry.len < c.args.entry.now.len = omega (arith, c.if-node-entry.false, c.if-node-entry-2.false) in
    let half = half_is c.args.width node.entry.len in
    let past : node.entry.bits + size c.args.width (node.entry.len + 1) ≤ c.args.entry.now.bits =
    omega (arith, half, c.half.ensures, c.if-entry-middle.false) in
    let middle : node.entry.bits + size c.args.width (node.entry.len + 1) ≡ node.entry.bits + c.half.result =
    omega (arith, half, c.half.ensures) in
    let call : (own : IsReady c.args.self.now c.args.width node.right (node.entry.bits + size c.args.width (node.entry.len + 1)) (node.entry.len + 1))
    → Results c.args.self.now c.write-child-2.new.self c.args.width (node.entry.bits + size c.args.width (node.entry.len + 1))
    (node.entry.len + 1) own.tree own.free c.write-child-2.result
    (rows_written (change_for c.args.width c.args.entry.now) (rows_of c.args.width own.tree)) 2 =
    subst (λ m. (own : IsReady c.args.self.now c.args.width node.right m (node.entry.len + 1))
    → Results c.args.self.now c.write-child-2.new.self c.args.width m (node.entry.len + 1) own.tree own.free
    c.write-child-2.result (rows_written (change_for c.args.width c.args.entry.now) (rows_of c.args.width own.tree)) 2)
    (sym middle) c.write-child-2.ensures.results in
    let done = grown_right c.args.self.now c.args.width c.args.low c.args.depth c.args.at node here c.if-at-eq-NONE.false ready c.write-child-2.new.self c.set_right.new.self
    c.write-child-2.result c.args.entry.now c.requires.within longer covers.0 c.set_right.ensures.free
    c.set_right.ensures.freed past call c.set_right.ensures.nodes in
    then_tidied c.args.self.now c.set_right.new.self c.tidy-2.new.self c.args.width c.args.low c.args.depth ready.tree ready.free c.args.at
    c.tidy-2.result (rows_written (change_for c.args.width c.args.entry.now) (rows_of c.args.width ready.tree)) 2 ready.holds done
    (c.tidy-2.ensures.results c.args.width c.args.low c.args.depth)
