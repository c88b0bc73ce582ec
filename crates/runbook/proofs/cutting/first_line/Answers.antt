use Rattle.std.proofs.Common.{◌+◌, ◌++◌, ap, sym, ◌∙◌}
use Rattle.runbook.specs.Lines.{counted, lines_of, numbered_from, one_numbered, words_of}
use Rattle.runbook.proofs.Cuts.{last_line, one_line}
use Rattle.runbook.proofs.cutting.first_line.Goals as goal

pub returns-then-is_empty-clause-parts : goal.returns-then-is_empty-clause-parts
returns-then-is_empty-clause-parts c number rounds =
    last_line c.args.text.now c.split_at.result.0.now c.split_at.result.1.now _ number rounds c.place_of.ensures.value
    c.split_at.ensures.front c.split_at.ensures.back
    (sym c.is_empty.ensures ∙ c.if-is_empty.true)

pub returns-clause-parts : goal.returns-clause-parts
returns-clause-parts c number rounds =
    one_line c.args.text.now c.split_at.result.0.now c.split_at.result.1.now c.split_at-2.result.1.now _ number rounds
    c.place_of.ensures.value c.split_at.ensures.front c.split_at.ensures.back
    (sym c.is_empty.ensures ∙ c.if-is_empty.false) c.split_at-2.ensures.back
    ∙ ap (λ l. one_numbered number rounds (words_of l)
    ++ numbered_from (number + 1) (counted rounds (words_of l)) (lines_of c.split_at-2.result.1.now))
    (sym c.cut_return.ensures)
