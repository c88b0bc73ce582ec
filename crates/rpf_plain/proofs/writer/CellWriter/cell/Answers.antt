use Rattle.std.proofs.Common.{ap, sym, ◌∙◌}
use Rattle.rpf_plain.specs.Cells.{cell_at}
use Rattle.rpf_plain.specs.Written.{Written}
use Rattle.rpf_plain.proofs.Tables.{at_hand_is}
use Rattle.rpf_plain.proofs.writer.CellWriter.cell.Goals as goal

pub returns-then-same_prefix : goal.returns-then-same_prefix
returns-then-same_prefix c =
    let prefix = c.args.prefix.now in
    sym (ap (λ (w : Written). cell_at w.cells prefix) (sym c.self.view_is)
    ∙ at_hand_is c.self.inside.hand c.self.inside.cells c.in-Some.at prefix c.in-Some.cell c.in-Some.is
    (c.same_prefix.ensures.0 c.if-same_prefix.true))
