use Rattle.std.proofs.Common.{sym, ap, ◌∙◌, length, arith}
use Rattle.std.proofs.lemmas.Grind.{common_steps}
use Rattle.urpf_base.proofs.Order.{compares}
use Rattle.prefix_map.proofs.Merge.{led, steps_left, steps_both}
use Rattle.prefix_map.proofs.beside.BesideIterator.next.Goals as goal

pub returns-in-Less-clause-steps : goal.returns-in-Less-clause-steps
returns-in-Less-clause-steps g c =
    let left = c.next-self-inside-in-Less in
    sym c.self.view_is
    ∙ steps_left c.self.inside.first_left c.self.inside.left c.self.inside.first_right c.self.inside.right
    c.in-Some.left c.in-Some-first_right-2.right _
    c.in-Some.is c.in-Some-first_right-2.is c.self.invariant
    (sym (compares c.in-Some.left.0 c.in-Some-first_right-2.right.0) ∙ sym c.in-Less.ensures)
    (led left.result c.self.inside.left left.new.self left.ensures.steps)

pub returns-in-Less-clause-goes : goal.returns-in-Less-clause-goes
returns-in-Less-clause-goes g c = let e = ap length (returns-in-Less-clause-steps g c) in grind (arith, common_steps, e)

pub returns-in-Equal-clause-steps : goal.returns-in-Equal-clause-steps
returns-in-Equal-clause-steps g c =
    let left = c.next-self-inside-in-Equal in
    let right = c.next-self-inside-in-Equal-2 in
    sym c.self.view_is
    ∙ steps_both c.self.inside.first_left c.self.inside.left c.self.inside.first_right c.self.inside.right
    c.in-Some.left c.in-Some-first_right-2.right _ _
    c.in-Some.is c.in-Some-first_right-2.is c.self.invariant
    (sym (compares c.in-Some.left.0 c.in-Some-first_right-2.right.0) ∙ sym c.in-Equal.ensures)
    (led left.result c.self.inside.left left.new.self left.ensures.steps)
    (led right.result c.self.inside.right right.new.self right.ensures.steps)

pub returns-in-Equal-clause-goes : goal.returns-in-Equal-clause-goes
returns-in-Equal-clause-goes g c = let e = ap length (returns-in-Equal-clause-steps g c) in
    grind (arith, common_steps, e)
