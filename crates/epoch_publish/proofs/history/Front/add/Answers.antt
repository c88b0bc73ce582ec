use Rattle.std.proofs.Common.{◌≡◌, ◌+◌, length, sym, ◌∙◌, ap}
use Rattle.epoch_publish.proofs.Adding.{adds_moves}
use Rattle.epoch_publish.proofs.history.Front.add.Goals as goal

pub compare_exchange-found-requires : goal.compare_exchange-found-requires
compare_exchange-found-requires g c =
    let h = c.args.book.now.head_is in
    let offer = c.plain-offer.ensures in
    let pen = c.no_pen-pen.ensures in
    let next : c.args.batch.now.number ≡ c.self.inside.number + 1 =
    c.requires.next ∙ ap (λ n. n + 1) (sym (c.self.invariant.0 ∙ ap length c.self.view_is)) in (
      ap (λ w. w.tracked) h,
      c.self.invariant.1 ∙ sym (ap (λ w. w.book) h),
      pen.0 ∙ (c.self.invariant.1 ∙ sym (ap (λ w. w.book) h)),
      offer.0,
      rw (ap (λ w. w.key) h, pen.1, offer.1, offer.3) (adds_moves c.self.inside.seen.log c.args.batch.now c.self.inside.number (sym c.self.invariant.0) next),
    )
