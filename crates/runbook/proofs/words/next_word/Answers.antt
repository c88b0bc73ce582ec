use Rattle.std.proofs.Common.{sym, ◌∙◌}
use Rattle.runbook.proofs.Cuts.{no_word, one_word}
use Rattle.runbook.proofs.words.next_word.Goals as goal

pub returns-then-is_empty-clause-none : goal.returns-then-is_empty-clause-none
returns-then-is_empty-clause-none c =
    no_word c.args.text.now c.split_at.result.1.now _ c.blanks_of.ensures.value c.split_at.ensures.back
    (sym c.is_empty.ensures ∙ c.if-is_empty.true)

pub returns-clause-first : goal.returns-clause-first
returns-clause-first c =
    one_word c.args.text.now c.split_at.result.1.now _ _ _ _ c.blanks_of.ensures.value c.split_at.ensures.back
    (sym c.is_empty.ensures ∙ c.if-is_empty.false)
    c.word_of.ensures.value c.split_at-2.ensures.front c.split_at-2.ensures.back
