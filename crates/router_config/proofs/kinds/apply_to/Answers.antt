use Rattle.std.proofs.Common.{set, ap, sym, ◌∙◌}
use Rattle.std.proofs.lemmas.List.Edits.{map_over_more}
use Rattle.router_config.specs.Edits.{edited_row}
use Rattle.router_config.proofs.kinds.apply_to.Goals as goal

pub loop-row-preserved : goal.loop-row-preserved
loop-row-preserved c =
    let l = c.loop-row in
    rw c.applied.ensures
    (ap (λ row. set l.rows l.row-index (edited_row c.args.edit.now row)) (sym c.row-item.is)
    ∙ map_over_more (edited_row c.args.edit.now) c.args.rows.now l.rows l.row-index c.row-item.result
    c.loop-row-test.true l.invariant c.row-item.is)
