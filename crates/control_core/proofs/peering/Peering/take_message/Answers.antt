use Rattle.std.proofs.Common.{refl, sym, ap}
use Rattle.control_core.specs.TurnParts.{answer_of}
use Rattle.control_core.proofs.TurnLaws.{kept_where_refused, kept_where_taken, same_peer, takes_held, took_message}
use Rattle.control_core.proofs.peering.Peering.take_message.Goals as goal

pub returns-in-Ok-clause-takes : goal.returns-in-Ok-clause-takes
returns-in-Ok-clause-takes g c =
    takes_held _ _ c.take_item-taken.result _
    c.take_item-taken.ensures.config c.take_item-taken.ensures.items refl refl refl
    (kept_where_taken _ c.take_item-taken.result _ c.in-Ok.is) (sym (ap answer_of c.in-Ok.is))
    (λ same events effects stands memory.
    took_message events effects c.args.self.now _ c.args.kind c.body.result c.take_item-taken.result _
    stands c.requires.message c.requires.kind c.body.ensures same c.next.ensures refl refl
    c.take_item-taken.ensures.took (sym (ap answer_of c.in-Ok.is)) memory)

pub returns-in-Err-clause-takes : goal.returns-in-Err-clause-takes
returns-in-Err-clause-takes g c =
    let session = rw c.in-Err.is at c.take_item-taken.ensures.session in
    let rib = rw c.in-Err.is at c.take_item-taken.ensures.rib in
    takes_held _ _ c.take_item-taken.result _
    c.take_item-taken.ensures.config c.take_item-taken.ensures.items refl refl refl
    (kept_where_refused _ c.take_item-taken.result _ c.in-Err.is
    (same_peer _ _ refl session rib refl refl refl refl))
    (sym (ap answer_of c.in-Err.is))
    (λ same events effects stands memory. absurd memory)
