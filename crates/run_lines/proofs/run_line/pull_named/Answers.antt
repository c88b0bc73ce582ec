use Rattle.run_lines.specs.Slots.{slots_of}
use Rattle.run_lines.specs.Steps.{pull}
use Rattle.run_lines.proofs.Composing.{one_step}
use Rattle.run_lines.proofs.run_line.pull_named.Goals as goal

pub returns-in-Some-clause-ran : goal.returns-in-Some-clause-ran
returns-in-Some-clause-ran g c = λ run place rounds s.
    rw c.in-Some.is
    (one_step run place (pull c.in-Some.session c.args.count) c.pull.result c.pull.new.control rounds
    (slots_of _ c.pull.new.feeds.items) (g.K.Sink.held c.args.out.now) (g.K.Sink.held c.pull.new.out)
    (c.pull.ensures.ran run place rounds s))
