use Rattle.std.proofs.Common.{refl}
use Rattle.control_core.proofs.TurnLaws.{never_kept, surely_taken, takes_held, took_fault}
use Rattle.control_core.proofs.peering.Peering.take_fault.Goals as goal

pub returns-clause-takes : goal.returns-clause-takes
returns-clause-takes g c =
    takes_held _ _ c.take_item-taken.result c.answer.result
    c.take_item-taken.ensures.config c.take_item-taken.ensures.items refl refl refl
    (never_kept _ c.take_item-taken.result c.take_item-taken.ensures.memory) c.answer.ensures
    (λ same events effects stands memory.
    took_fault events effects c.args.self.now _ c.args.subcode c.take_item-taken.result c.answer.result stands
    c.requires.faulty same c.stop.ensures.framer c.stop.ensures.waiting c.stop.ensures.receiving
    c.take_item-taken.ensures.took c.answer.ensures memory)

pub returns-clause-taken : goal.returns-clause-taken
returns-clause-taken g c =
    surely_taken c.take_item-taken.result c.answer.result c.take_item-taken.ensures.memory c.answer.ensures
