use Rattle.std.proofs.Common.{ap, ◌∙◌, ◌+◌, refl}
use Rattle.report_text.specs.Lines.{round_line}
use Rattle.run_lines.specs.Steps.{round}
use Rattle.run_lines.proofs.Emptied.{emptied_at}
use Rattle.run_lines.proofs.StepResults.{round_at}
use Rattle.run_lines.proofs.Written.{step_ran}
use Rattle.run_lines.proofs.run_line.end_round.Goals as goal

pub returns-clause-ran : goal.returns-clause-ran
returns-clause-ran g c = λ run place control slots s.
    step_ran run place round c.put_round.new.to c.offer.result control (c.args.rounds.now + 1) slots
    (g.K.Sink.held c.args.out.now) (g.K.Sink.held c.offer.new.out)
    (c.put_round.ensures ∙ ap (λ n. round_line (n + 1)) s.ended)
    (emptied_at run place control c.args.rounds.now slots s)
    (round_at run place control c.args.rounds.now (c.args.rounds.now + 1) slots s refl)
    c.offer.ensures.ok c.offer.ensures.cut_short c.offer.ensures.err
