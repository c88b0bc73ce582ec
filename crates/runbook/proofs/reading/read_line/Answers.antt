use Rattle.std.proofs.Common.{◌≡◌, ◌∷◌, ap, sym, subst, ◌∙◌}
use Rattle.runbook.specs.Lines.{words_in, words_of}
use Rattle.runbook.specs.Says.{IsJudged}
use Rattle.runbook.proofs.reading.read_line.Goals as goal

pub returns-clause-only : goal.returns-clause-only
returns-clause-only c s h =
    let words : words_of c.args.line.now ≡ c.in-Some.first.now
    ∷ words_in c.in-Some.rest.now = ap words_in (sym c.cut_comment.ensures) ∙ c.in-Some.ensures.first in
    c.judge_words.ensures.only s (subst (λ w. IsJudged c.args.config.now c.args.rounds w s) words h)
