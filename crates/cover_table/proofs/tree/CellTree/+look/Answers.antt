use Rattle.std.proofs.Common.{◌≡◌, ◌<◌, ◌+◌, sym, ◌∙◌, refl, arith, length, false, rules}
use Rattle.std.specs.List.{list_any}
use Rattle.cover_table.specs.Judging.{admits}
use Rattle.cover_table.specs.Trees.{Tree, addr_of, rows_of, size}
use Rattle.cover_table.proofs.Blocks.{half_is, two_halves}
use Rattle.cover_table.proofs.Joining.{left_ready, node_within, right_ready}
use Rattle.cover_table.proofs.Apart.{fails, holds}
use Rattle.cover_table.proofs.Looking.{few_bits, look_here, look_last, look_left, look_none, look_right}
use Rattle.cover_table.proofs.Standing.{at_place, stands_within}
use Rattle.cover_table.proofs.Writing.{by_none}
use Rattle.cover_table.proofs.tree.CellTree.+look.Goals as goal

pub returns-then-at-eq-NONE-clause-value : goal.returns-then-at-eq-NONE-clause-value
returns-then-at-eq-NONE-clause-value g t c low fits ready =
    by_none (λ (tree : Tree). false ≡ list_any (admits c.args.mode c.args.iface (addr_of c.args.width c.args.bits))
    (rows_of c.args.width tree)) c.args.self.now c.args.at ready.tree ready.holds.stands ready.holds.numbered
    c.if-at-eq-NONE.true refl

pub get-node-requires : goal.get-node-requires
get-node-requires g t c =
    let ready = c.requires.ready.2 in
    let placed : c.args.at < length c.args.self.now.nodes.items =
    stands_within c.args.self.now.nodes.items c.args.at ready.tree ready.holds.stands c.if-at-eq-NONE.false in
    first_of (omega arith, search rules)

pub covers-requires-clause-within : goal.covers-requires-clause-within
covers-requires-clause-within g t c =
    let ready = c.requires.ready.2 in
    let placed : c.args.at < length c.args.self.now.nodes.items =
    stands_within c.args.self.now.nodes.items c.args.at ready.tree ready.holds.stands c.if-at-eq-NONE.false in
    let node = c.get-node.result in
    let here = at_place c.args.self.now.nodes.items c.args.at node placed c.get-node.ensures.node in
    let low = c.requires.ready.0 in
    let outer = node_within c.args.self.now c.args.width low c.args.depth c.args.at node here c.if-at-eq-NONE.false ready in
    let few = few_bits c.args.width c.requires.width in
    outer.within

pub covers-requires-clause-width : goal.covers-requires-clause-width
covers-requires-clause-width g t c =
    few_bits c.args.width c.requires.width

pub returns-then-not-covers-clause-value : goal.returns-then-not-covers-clause-value
returns-then-not-covers-clause-value g t c low fits ready =
    let placed : c.args.at < length c.args.self.now.nodes.items =
    stands_within c.args.self.now.nodes.items c.args.at ready.tree ready.holds.stands c.if-at-eq-NONE.false in
    let node = c.get-node.result in
    let here = at_place c.args.self.now.nodes.items c.args.at node placed c.get-node.ensures.node in
    let outer = node_within c.args.self.now c.args.width low c.args.depth c.args.at node here c.if-at-eq-NONE.false ready in
    look_none c.args.mode c.args.iface c.args.width c.args.bits c.requires.width c.requires.bits c.args.self.now low c.args.depth
    c.args.at node here c.if-at-eq-NONE.false ready fits
    (fails c.covers.result _ c.covers.ensures c.if-not-covers.true)

pub returns-then-not-covers-clause-bound : goal.returns-then-not-covers-clause-bound
returns-then-not-covers-clause-bound g t c =
    let ready = c.requires.ready.2 in
    let placed : c.args.at < length c.args.self.now.nodes.items =
    stands_within c.args.self.now.nodes.items c.args.at ready.tree ready.holds.stands c.if-at-eq-NONE.false in
    let node = c.get-node.result in
    let here = at_place c.args.self.now.nodes.items c.args.at node placed c.get-node.ensures.node in
    let low = c.requires.ready.0 in
    let outer = node_within c.args.self.now c.args.width low c.args.depth c.args.at node here c.if-at-eq-NONE.false ready in
    let few = few_bits c.args.width c.requires.width in
    omega (arith, outer.deeper, outer.within, c.tick.ensures)

pub returns-then-told_by-clause-value : goal.returns-then-told_by-clause-value
returns-then-told_by-clause-value g t c low fits ready =
    let placed : c.args.at < length c.args.self.now.nodes.items =
    stands_within c.args.self.now.nodes.items c.args.at ready.tree ready.holds.stands c.if-at-eq-NONE.false in
    let node = c.get-node.result in
    let here = at_place c.args.self.now.nodes.items c.args.at node placed c.get-node.ensures.node in
    let outer = node_within c.args.self.now c.args.width low c.args.depth c.args.at node here c.if-at-eq-NONE.false ready in
    let covers = holds c.covers.result _ c.covers.ensures c.if-not-covers.false in
    look_here c.args.mode c.args.iface c.args.width c.args.bits c.requires.width c.requires.bits c.args.self.now low c.args.depth
    c.args.at node here c.if-at-eq-NONE.false ready fits covers.0 covers.1
    (sym (c.told_by.ensures c.args.width) ∙ c.if-told_by.true)

pub returns-then-told_by-clause-bound : goal.returns-then-told_by-clause-bound
returns-then-told_by-clause-bound g t c =
    let ready = c.requires.ready.2 in
    let placed : c.args.at < length c.args.self.now.nodes.items =
    stands_within c.args.self.now.nodes.items c.args.at ready.tree ready.holds.stands c.if-at-eq-NONE.false in
    let node = c.get-node.result in
    let here = at_place c.args.self.now.nodes.items c.args.at node placed c.get-node.ensures.node in
    let low = c.requires.ready.0 in
    let outer = node_within c.args.self.now c.args.width low c.args.depth c.args.at node here c.if-at-eq-NONE.false ready in
    let few = few_bits c.args.width c.requires.width in
    omega (arith, outer.deeper, outer.within, c.tick.ensures)

pub returns-then-node-width-clause-value : goal.returns-then-node-width-clause-value
returns-then-node-width-clause-value g t c low fits ready =
    let placed : c.args.at < length c.args.self.now.nodes.items =
    stands_within c.args.self.now.nodes.items c.args.at ready.tree ready.holds.stands c.if-at-eq-NONE.false in
    let node = c.get-node.result in
    let here = at_place c.args.self.now.nodes.items c.args.at node placed c.get-node.ensures.node in
    let outer = node_within c.args.self.now c.args.width low c.args.depth c.args.at node here c.if-at-eq-NONE.false ready in
    let covers = holds c.covers.result _ c.covers.ensures c.if-not-covers.false in
    look_last c.args.mode c.args.iface c.args.width c.args.bits c.requires.width c.requires.bits c.args.self.now low c.args.depth
    c.args.at node here c.if-at-eq-NONE.false ready fits covers.0 covers.1
    (sym (c.told_by.ensures c.args.width) ∙ c.if-told_by.false) c.if-node-width.true

pub returns-then-node-width-clause-bound : goal.returns-then-node-width-clause-bound
returns-then-node-width-clause-bound g t c =
    let ready = c.requires.ready.2 in
    let placed : c.args.at < length c.args.self.now.nodes.items =
    stands_within c.args.self.now.nodes.items c.args.at ready.tree ready.holds.stands c.if-at-eq-NONE.false in
    let node = c.get-node.result in
    let here = at_place c.args.self.now.nodes.items c.args.at node placed c.get-node.ensures.node in
    let low = c.requires.ready.0 in
    let outer = node_within c.args.self.now c.args.width low c.args.depth c.args.at node here c.if-at-eq-NONE.false ready in
    let few = few_bits c.args.width c.requires.width in
    omega (arith, outer.deeper, outer.within, c.tick.ensures)

pub overflow_sub-width : goal.overflow_sub-width
overflow_sub-width g t c =
    let ready = c.requires.ready.2 in
    let placed : c.args.at < length c.args.self.now.nodes.items =
    stands_within c.args.self.now.nodes.items c.args.at ready.tree ready.holds.stands c.if-at-eq-NONE.false in
    let node = c.get-node.result in
    let here = at_place c.args.self.now.nodes.items c.args.at node placed c.get-node.ensures.node in
    let low = c.requires.ready.0 in
    let outer = node_within c.args.self.now c.args.width low c.args.depth c.args.at node here c.if-at-eq-NONE.false ready in
    let few = few_bits c.args.width c.requires.width in
    outer.within

pub half-requires-clause-some : goal.half-requires-clause-some
half-requires-clause-some g t c =
    let ready = c.requires.ready.2 in
    let placed : c.args.at < length c.args.self.now.nodes.items =
    stands_within c.args.self.now.nodes.items c.args.at ready.tree ready.holds.stands c.if-at-eq-NONE.false in
    let node = c.get-node.result in
    let here = at_place c.args.self.now.nodes.items c.args.at node placed c.get-node.ensures.node in
    let low = c.requires.ready.0 in
    let outer = node_within c.args.self.now c.args.width low c.args.depth c.args.at node here c.if-at-eq-NONE.false ready in
    let few = few_bits c.args.width c.requires.width in
    omega (arith, outer.within, c.if-node-width.false)

pub half-requires-clause-few : goal.half-requires-clause-few
half-requires-clause-few g t c =
    let ready = c.requires.ready.2 in
    let placed : c.args.at < length c.args.self.now.nodes.items =
    stands_within c.args.self.now.nodes.items c.args.at ready.tree ready.holds.stands c.if-at-eq-NONE.false in
    let node = c.get-node.result in
    let here = at_place c.args.self.now.nodes.items c.args.at node placed c.get-node.ensures.node in
    let low = c.requires.ready.0 in
    let outer = node_within c.args.self.now c.args.width low c.args.depth c.args.at node here c.if-at-eq-NONE.false ready in
    let few = few_bits c.args.width c.requires.width in
    omega (arith, outer.within, few)

pub overflow_add-node : goal.overflow_add-node
overflow_add-node g t c =
    let ready = c.requires.ready.2 in
    let placed : c.args.at < length c.args.self.now.nodes.items =
    stands_within c.args.self.now.nodes.items c.args.at ready.tree ready.holds.stands c.if-at-eq-NONE.false in
    let node = c.get-node.result in
    let here = at_place c.args.self.now.nodes.items c.args.at node placed c.get-node.ensures.node in
    let low = c.requires.ready.0 in
    let outer = node_within c.args.self.now c.args.width low c.args.depth c.args.at node here c.if-at-eq-NONE.false ready in
    let few = few_bits c.args.width c.requires.width in
    omega (arith, outer.within, few)

pub overflow_add-node-2 : goal.overflow_add-node-2
overflow_add-node-2 g t c =
    let ready = c.requires.ready.2 in
    let placed : c.args.at < length c.args.self.now.nodes.items =
    stands_within c.args.self.now.nodes.items c.args.at ready.tree ready.holds.stands c.if-at-eq-NONE.false in
    let node = c.get-node.result in
    let here = at_place c.args.self.now.nodes.items c.args.at node placed c.get-node.ensures.node in
    let low = c.requires.ready.0 in
    let outer = node_within c.args.self.now c.args.width low c.args.depth c.args.at node here c.if-at-eq-NONE.false ready in
    let few = few_bits c.args.width c.requires.width in
    omega (arith, outer.within, few)

pub look-requires : goal.look-requires
look-requires g t c κs within =
    let ready = c.requires.ready.2 in
    let placed : c.args.at < length c.args.self.now.nodes.items =
    stands_within c.args.self.now.nodes.items c.args.at ready.tree ready.holds.stands c.if-at-eq-NONE.false in
    let node = c.get-node.result in
    let here = at_place c.args.self.now.nodes.items c.args.at node placed c.get-node.ensures.node in
    let low = c.requires.ready.0 in
    let outer = node_within c.args.self.now c.args.width low c.args.depth c.args.at node here c.if-at-eq-NONE.false ready in
    let few = few_bits c.args.width c.requires.width in
    let covers = holds c.covers.result _ c.covers.ensures c.if-not-covers.false in
    let more : node.entry.len < c.args.width = omega (arith, outer.within, c.if-node-width.false) in
    let half = half_is c.args.width node.entry.len in
    let halves = two_halves c.args.width node.entry.len more in
    let fits = c.requires.ready.1 in (
      omega (arith, more, outer.deeper, outer.within, few, c.decreases),
      (
        within,
        (
          c.requires.width,
          (
            c.requires.bits,
            (
              (node.entry.bits, omega (arith, outer.to, fits, halves), left_ready c.args.self.now c.args.width low c.args.depth c.args.at node here c.if-at-eq-NONE.false ready),
              omega (arith, more),
            ),
          ),
        ),
      ),
    )

pub look-requires-2 : goal.look-requires-2
look-requires-2 g t c κs within =
    let ready = c.requires.ready.2 in
    let placed : c.args.at < length c.args.self.now.nodes.items =
    stands_within c.args.self.now.nodes.items c.args.at ready.tree ready.holds.stands c.if-at-eq-NONE.false in
    let node = c.get-node.result in
    let here = at_place c.args.self.now.nodes.items c.args.at node placed c.get-node.ensures.node in
    let low = c.requires.ready.0 in
    let outer = node_within c.args.self.now c.args.width low c.args.depth c.args.at node here c.if-at-eq-NONE.false ready in
    let few = few_bits c.args.width c.requires.width in
    let covers = holds c.covers.result _ c.covers.ensures c.if-not-covers.false in
    let more : node.entry.len < c.args.width = omega (arith, outer.within, c.if-node-width.false) in
    let half = half_is c.args.width node.entry.len in
    let halves = two_halves c.args.width node.entry.len more in
    let fits = c.requires.ready.1 in (
      omega (arith, more, outer.deeper, outer.within, few, c.decreases),
      (
        within,
        (
          c.requires.width,
          (
            c.requires.bits,
            (
              (node.entry.bits + size c.args.width (node.entry.len + 1), omega (arith, outer.to, fits, halves), right_ready c.args.self.now c.args.width low c.args.depth c.args.at node here c.if-at-eq-NONE.false ready),
              omega (arith, more),
            ),
          ),
        ),
      ),
    )

pub returns-then-bits-node-clause-value : goal.returns-then-bits-node-clause-value
returns-then-bits-node-clause-value g t c low fits ready =
    let placed : c.args.at < length c.args.self.now.nodes.items =
    stands_within c.args.self.now.nodes.items c.args.at ready.tree ready.holds.stands c.if-at-eq-NONE.false in
    let node = c.get-node.result in
    let here = at_place c.args.self.now.nodes.items c.args.at node placed c.get-node.ensures.node in
    let outer = node_within c.args.self.now c.args.width low c.args.depth c.args.at node here c.if-at-eq-NONE.false ready in
    let covers = holds c.covers.result _ c.covers.ensures c.if-not-covers.false in
    let more : node.entry.len < c.args.width = omega (arith, outer.within, c.if-node-width.false) in
    let half = half_is c.args.width node.entry.len in
    look_left c.args.mode c.args.iface c.args.width c.args.bits c.requires.width c.requires.bits c.args.self.now low c.args.depth
    c.args.at node here c.if-at-eq-NONE.false ready fits covers.0 covers.1
    (sym (c.told_by.ensures c.args.width) ∙ c.if-told_by.false) (omega (arith, half, c.half.ensures, c.if-bits-node.true, covers)) more c.look.result c.look.ensures.value

pub returns-then-bits-node-clause-bound : goal.returns-then-bits-node-clause-bound
returns-then-bits-node-clause-bound g t c =
    let ready = c.requires.ready.2 in
    let placed : c.args.at < length c.args.self.now.nodes.items =
    stands_within c.args.self.now.nodes.items c.args.at ready.tree ready.holds.stands c.if-at-eq-NONE.false in
    let node = c.get-node.result in
    let here = at_place c.args.self.now.nodes.items c.args.at node placed c.get-node.ensures.node in
    let low = c.requires.ready.0 in
    let outer = node_within c.args.self.now c.args.width low c.args.depth c.args.at node here c.if-at-eq-NONE.false ready in
    let few = few_bits c.args.width c.requires.width in
    let covers = holds c.covers.result _ c.covers.ensures c.if-not-covers.false in
    let more : node.entry.len < c.args.width = omega (arith, outer.within, c.if-node-width.false) in
    let half = half_is c.args.width node.entry.len in
    omega (arith, outer.deeper, more, c.tick.ensures, c.look.ensures.bound)

pub returns-clause-value : goal.returns-clause-value
returns-clause-value g t c low fits ready =
    let placed : c.args.at < length c.args.self.now.nodes.items =
    stands_within c.args.self.now.nodes.items c.args.at ready.tree ready.holds.stands c.if-at-eq-NONE.false in
    let node = c.get-node.result in
    let here = at_place c.args.self.now.nodes.items c.args.at node placed c.get-node.ensures.node in
    let outer = node_within c.args.self.now c.args.width low c.args.depth c.args.at node here c.if-at-eq-NONE.false ready in
    let covers = holds c.covers.result _ c.covers.ensures c.if-not-covers.false in
    let more : node.entry.len < c.args.width = omega (arith, outer.within, c.if-node-width.false) in
    let half = half_is c.args.width node.entry.len in
    look_right c.args.mode c.args.iface c.args.width c.args.bits c.requires.width c.requires.bits c.args.self.now low c.args.depth
    c.args.at node here c.if-at-eq-NONE.false ready fits covers.0 covers.1
    (sym (c.told_by.ensures c.args.width) ∙ c.if-told_by.false) (omega (arith, half, c.half.ensures, c.if-bits-node.false, covers)) more c.look-2.result c.look-2.ensures.value

pub returns-clause-bound : goal.returns-clause-bound
returns-clause-bound g t c =
    let ready = c.requires.ready.2 in
    let placed : c.args.at < length c.args.self.now.nodes.items =
    stands_within c.args.self.now.nodes.items c.args.at ready.tree ready.holds.stands c.if-at-eq-NONE.false in
    let node = c.get-node.result in
    let here = at_place c.args.self.now.nodes.items c.args.at node placed c.get-node.ensures.node in
    let low = c.requires.ready.0 in
    let outer = node_within c.args.self.now c.args.width low c.args.depth c.args.at node here c.if-at-eq-NONE.false ready in
    let few = few_bits c.args.width c.requires.width in
    let covers = holds c.covers.result _ c.covers.ensures c.if-not-covers.false in
    let more : node.entry.len < c.args.width = omega (arith, outer.within, c.if-node-width.false) in
    let half = half_is c.args.width node.entry.len in
    omega (arith, outer.deeper, more, c.tick.ensures, c.look-2.ensures.bound)
