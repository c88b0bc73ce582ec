use Rattle.std.proofs.Common.{◌≡◌, ◌+◌, length, ap, sym, ◌∙◌, arith}
use Rattle.cover_table.specs.Snapshots.{fold, step}
use Rattle.epoch_publish.proofs.Numbering.{fold_next}
use Rattle.epoch_publish.proofs.published.Published.take_over.Goals as goal

pub invariant_of-self-2 : goal.invariant_of-self-2
invariant_of-self-2 g c =
    let one_more : length c.event.inside.front ≡ length c.self.inside.front + 1 =
    grind (arith, c.len-known.ensures.length, c.len-next.ensures.length, c.if-next-known.false, c.if-next-known-ne1.false) in
    c.in_ok-absorb.ensures
    ∙ (ap (λ s. step s c.event.inside.batch) c.self.invariant
    ∙ (fold_next g.J.Naming.opening c.self.inside.front c.event.inside.front c.event.inside.batch c.after.ensures c.event.invariant one_more
    ∙ sym (ap (fold g.J.Naming.opening) c.again.ensures)))
