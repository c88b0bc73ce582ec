use Rattle.run_lines.specs.Steps.{summary}
use Rattle.run_lines.proofs.Emptied.{emptied_at}
use Rattle.run_lines.proofs.StepResults.{summary_gives}
use Rattle.run_lines.proofs.Written.{step_ran}
use Rattle.run_lines.proofs.run_line.summarize.Goals as goal

pub returns-clause-ran : goal.returns-clause-ran
returns-clause-ran g c = λ run place rounds slots s.
    step_ran run place summary c.put_summary.new.to c.offer.result c.args.control.now rounds slots
    (g.K.Sink.held c.args.out.now) (g.K.Sink.held c.offer.new.out)
    (summary_gives run place c.args.control.now rounds slots c.put_summary.new.to s c.put_summary.ensures)
    (emptied_at run place c.args.control.now rounds slots s) s c.offer.ensures.ok c.offer.ensures.cut_short c.offer.ensures.err
