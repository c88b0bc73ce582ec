use Rattle.std.proofs.Common.{◌≡◌, Err}
use Rattle.control_core.specs.declared.limits.RunFault.TheVariants.{ReadFault}
use Rattle.run_lines.specs.Inputs.{opening_of}
use Rattle.run_lines.proofs.FeedFaults.{each_of_one, pull_named}
use Rattle.run_lines.proofs.PullStep.{pull_ran}
use Rattle.run_lines.proofs.run_line.pull.Goals as goal

pub returns-clause-ran : goal.returns-clause-ran
returns-clause-ran g c = λ run place rounds s.
    pull_ran _ run place c.args.session c.args.count c.pull.result c.args.control.now c.pull.new.self rounds
    c.args.feeds.now.items c.pull.new.feeds.items (g.K.Sink.held c.args.out.now) (g.K.Sink.held c.pull.new.out) s
    c.requires.session c.pull.ensures.pull
    (λ course peer gave more there now stands.
    c.pull.ensures.stands (opening_of run) place.edits s.courses course peer gave more s.stands there now stands)
    c.pull.ensures.published c.pull.ensures.memory

pub returns-clause-feeds : goal.returns-clause-feeds
returns-clause-feeds g c =
    each_of_one _ (λ s. c.pull.result ≡ Err (ReadFault s)) c.args.session c.args.feeds.now.items
    c.pull.new.feeds.items c.pull.ensures.feed
    (pull_named _ c.args.session c.args.count c.args.feeds.now.items c.pull.new.feeds.items
    (g.K.Sink.held c.args.out.now) (g.K.Sink.held c.pull.new.out) c.pull.result c.args.control.now c.pull.new.self
    c.pull.ensures.pull (λ out. (c.pull.ensures.exhausted out).0))
