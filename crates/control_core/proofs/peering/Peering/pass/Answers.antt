use Rattle.std.proofs.Common.{[], ◌∷◌, refl}
use Rattle.feed_io.specs.Events.{elapsed}
use Rattle.control_core.proofs.TurnLaws.{never_kept, surely_taken, takes_one, took_seconds}
use Rattle.control_core.proofs.peering.Peering.pass.Goals as goal

pub returns-clause-takes : goal.returns-clause-takes
returns-clause-takes g c =
    takes_one (elapsed c.args.seconds ∷ []) _ _ c.take_item.result c.answer.result
    c.take_item.ensures.config c.take_item.ensures.items refl refl refl
    (never_kept _ c.take_item.result c.take_item.ensures.memory) c.answer.ensures
    (λ same events effects stands memory.
    took_seconds events effects c.args.seconds c.args.self.now _ c.take_item.result c.answer.result stands
    c.requires.short c.requires.none same refl c.take_item.ensures.took c.answer.ensures memory)

pub returns-clause-taken : goal.returns-clause-taken
returns-clause-taken g c =
    surely_taken c.take_item.result c.answer.result c.take_item.ensures.memory c.answer.ensures
