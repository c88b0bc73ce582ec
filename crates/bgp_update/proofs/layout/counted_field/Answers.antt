use Rattle.std.proofs.Common.{length, arith}
use Rattle.std.proofs.lemmas.Slice.{between_to_end}
use Rattle.bgp_update.proofs.LayoutLaws.{counted-cut}
use Rattle.bgp_update.proofs.layout.counted_field.Goals as goal

pub returns-clause-only : goal.returns-clause-only
returns-clause-only c field rest counted =
    let text = c.args.text.now in
    let cut = c.split_at.ensures in
    counted-cut text field rest _ c.split_at.result.0.now c.split_at.result.1.now c.from_be_bytes-count.result
    c.from_be_bytes-count.ensures
    (between_to_end text 2 (length text) (omega arith)) cut.front cut.back counted
