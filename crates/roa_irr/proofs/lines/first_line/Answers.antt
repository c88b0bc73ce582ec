use Rattle.std.proofs.Common.{◌∷◌, ◌+◌, ◌-◌, length, take, drop, sym, ap, ◌∙◌}
use Rattle.roa_irr.specs.Lines.{lines_of}
use Rattle.roa_irr.proofs.FirstLines.{lines_of-cut, lines_of-whole}
use Rattle.roa_irr.proofs.lines.first_line.Goals as goal

pub returns-in_default-clause-lines : goal.returns-in_default-clause-lines
returns-in_default-clause-lines c = lines_of-whole c.args.text.now c.requires c.in_default.ensures

pub returns-clause-lines : goal.returns-clause-lines
returns-clause-lines c =
    let text = c.args.text.now in
    let i = c.in-Some.place in
    lines_of-cut text i c.in-Some.ensures
    ∙ ap (λ l. l ∷ lines_of (take (length text - (i + 1)) (drop (i + 1) text))) (sym c.without_return.ensures)
