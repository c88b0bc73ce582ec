use Rattle.std.proofs.Common.{map, subst, sym, take}
use Rattle.std.specs.Io.KnownBytes.{Appends}
use Rattle.urpf_base.proofs.Growth.{Appends-append}
use Rattle.live_rounds.specs.Rows.{final_row, rows_text}
use Rattle.live_rounds.proofs.Writing.{text_more}
use Rattle.live_rounds.proofs.rows.write_rows.Goals as goal

pub loop-row-preserved : goal.loop-row-preserved
loop-row-preserved g c =
    let rows = c.items-row-items.result.now in
    let final = final_row c.args.known g.J.Naming.opening (g.C.Part.state c.args.part.now).batches in
    let before = g.K.Sink.held c.args.out.now in
    let now = g.K.Sink.held c.write_row.new.out in
    subst (λ text. Appends before now text)
    (sym (text_more final rows c.loop-row.row-index _ c.loop-row-test.true))
    (Appends-append before (g.K.Sink.held c.loop-row.out) now (rows_text (map final (take c.loop-row.row-index rows))) _
    c.loop-row.invariant c.in_default.ensures.wrote)
