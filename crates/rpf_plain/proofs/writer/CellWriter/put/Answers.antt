use Rattle.std.proofs.Common.{ap, ◌∙◌}
use Rattle.std.specs.FinMap.{insert}
use Rattle.rpf_plain.specs.Written.{Written}
use Rattle.rpf_plain.proofs.Tables.{put_again}
use Rattle.rpf_plain.proofs.writer.CellWriter.put.Goals as goal

pub returns-then-has_at_hand-clause-cells : goal.returns-then-has_at_hand-clause-cells
returns-then-has_at_hand-clause-cells c =
    let prefix = c.args.prefix.now in
    let cell = c.args.cell in
    put_again c.self.inside.hand c.self.inside.cells prefix cell
    (ap (λ (w : Written). w.at) c.self.view_is ∙ c.has_at_hand.ensures.0 c.if-has_at_hand.true)
    ∙ ap (λ (w : Written). insert w.cells prefix cell) c.self.view_is
