use Rattle.std.proofs.Common.{◌∙◌, Some, ap}
use Rattle.cover_table.specs.Judging.{judge}
use Rattle.report_text.specs.Lines.{check_line}
use Rattle.run_lines.specs.Steps.{check}
use Rattle.run_lines.proofs.Emptied.{emptied_at}
use Rattle.run_lines.proofs.StepResults.{check_gives}
use Rattle.run_lines.proofs.Written.{step_ran}
use Rattle.run_lines.proofs.run_line.check.Goals as goal

pub returns-clause-ran : goal.returns-clause-ran
returns-clause-ran g c = λ run place control rounds slots s shows.
    step_ran run place (check c.args.iface c.args.addr.now) c.put_check.new.to c.offer.result control rounds slots
    (g.K.Sink.held c.args.out.now) (g.K.Sink.held c.offer.new.out)
    (check_gives run place control rounds slots c.args.iface c.args.addr.now c.args.snapshot.now c.put_check.new.to s
    shows (c.put_check.ensures
    ∙ ap (λ v. check_line c.args.iface c.args.addr.now v c.number-2.result)
    (c.check-verdict.ensures ∙ ap (λ i. judge c.args.snapshot.now i (Some c.args.addr.now)) c.number.ensures.value)
    ∙ ap (λ n. check_line c.args.iface c.args.addr.now (judge c.args.snapshot.now c.args.iface (Some c.args.addr.now)) n)
    c.number-2.ensures))
    (emptied_at run place control rounds slots s) s c.offer.ensures.ok c.offer.ensures.cut_short c.offer.ensures.err
