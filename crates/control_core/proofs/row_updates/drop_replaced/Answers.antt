use Rattle.std.proofs.Common.{suc, ◌∷◌, drop, drop-cons, sym, ap, ◌∙◌}
use Rattle.control_core.specs.EngineRows.{Log}
use Rattle.control_core.proofs.Logs.{replaced_next}
use Rattle.control_core.proofs.row_updates.drop_replaced.Goals as goal

pub remove_row-requires : goal.remove_row-requires
remove_row-requires g c =
    let change = c.change-item.result in
    let later : Log = drop (suc c.loop-change.change-index) c.args.log.now in
    let next = drop-cons c.args.log.now c.loop-change.change-index change c.loop-change-test.true
    ∙ ap (λ x. x ∷ later) (sym c.change-item.is)
    ∙ ap (λ v. (change.0, v) ∷ later) c.in-Some.is in
    replaced_next c.args.iface c.args.log.now (drop c.loop-change.change-index c.args.log.now) later change.0
    c.in-Some.origin c.args.sets.now c.loop-change.sets next c.requires c.loop-change.invariant.taken
