use Rattle.std.proofs.Common.{sym, ◌∙◌}
use Rattle.std.proofs.lemmas.Option.{none-some}
use Rattle.std.proofs.lemmas.Slice.Eq.{bytes_eq-Decides}
use Rattle.runbook.specs.Lines.{words_in}
use Rattle.runbook.proofs.Sayings.{at_only, differs, pair_only, pull_only}
use Rattle.runbook.proofs.saying.read_words.Goals as goal

pub returns-then-eq-clause-only : goal.returns-then-eq-clause-only
returns-then-eq-clause-only c =
    pull_only c.args.first.now (words_in c.args.rest.now) c.read_pull.result
    ((bytes_eq-Decides _ _).0 (sym c.eq.ensures ∙ c.if-eq.true) ∙ c.as_slice.ensures)
    c.read_pull.ensures.only

pub returns-then-eq-2-clause-only : goal.returns-then-eq-2-clause-only
returns-then-eq-2-clause-only c =
    pair_only c.args.first.now (words_in c.args.rest.now) c.read_pair.result
    ((bytes_eq-Decides _ _).0 (sym c.eq-2.ensures ∙ c.if-eq-2.true) ∙ c.as_slice-2.ensures)
    c.read_pair.ensures.only

pub returns-in-None-clause-only : goal.returns-in-None-clause-only
returns-in-None-clause-only c =
    at_only c.args.first.now (words_in c.args.rest.now) c.read_at.result
    (λ e. differs _ _ (sym c.eq.ensures ∙ c.if-eq.false) (e ∙ sym c.as_slice.ensures))
    (λ e. differs _ _ (sym c.eq-2.ensures ∙ c.if-eq-2.false) (e ∙ sym c.as_slice-2.ensures))
    (λ one is. none-some one (c.in-None.ensures.only one is))
    c.read_at.ensures.only
