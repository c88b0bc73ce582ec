use Rattle.std.proofs.Common.{ℕ, [], ◌∷◌, ap, length, map, refl, subst, sym}
use Rattle.std.proofs.lemmas.Result.{on_ok_weaker}
use Rattle.urpf_base.specs.declared.kinds.Kind.{Kind}
use Rattle.runbook.specs.declared.lines.BookLine.TheVariants.{Pull}
use Rattle.control_core.proofs.Shown.{shown_edited}
use Rattle.run_lines.specs.Inputs.{opening_of}
use Rattle.run_lines.specs.Runs.{Shows}
use Rattle.run_lines.specs.Slots.{slots_of}
use Rattle.run_lines.specs.Steps.{change, check, publish, round, steps_in, summary}
use Rattle.run_lines.proofs.Composing.{one_step}
use Rattle.run_lines.proofs.HandingOn.{grows_none, handed_nothing, one_quiet, pull_quiet}
use Rattle.run_lines.proofs.InStep.{kept_in_step}
use Rattle.run_lines.proofs.Showing.{on_ok_always, shows_pulled}
use Rattle.run_lines.proofs.run_line.take_line.Goals as goal

pub returns-in-Publish-clause-ran : goal.returns-in-Publish-clause-ran
returns-in-Publish-clause-ran g c = λ run place s shows.
    rw c.in-Publish.is
    (one_step run place publish c.publish.result c.publish.new.control c.args.rounds.now
    (slots_of _ c.args.feeds.now.items) (g.K.Sink.held c.args.out.now) (g.K.Sink.held c.publish.new.out)
    (c.publish.ensures.ran run place c.args.rounds.now (slots_of _ c.args.feeds.now.items) s))

pub returns-in-Round-clause-ran : goal.returns-in-Round-clause-ran
returns-in-Round-clause-ran g c = λ run place s shows.
    rw c.in-Round.is
    (one_step run place round c.end_round.result c.args.control.now c.end_round.new.rounds
    (slots_of _ c.args.feeds.now.items) (g.K.Sink.held c.args.out.now) (g.K.Sink.held c.end_round.new.out)
    (c.end_round.ensures.ran run place c.args.control.now (slots_of _ c.args.feeds.now.items) s))

pub returns-in-Check-clause-ran : goal.returns-in-Check-clause-ran
returns-in-Check-clause-ran g c = λ run place s shows.
    rw c.in-Check.is
    (one_step run place (check c.in-Check.iface c.in-Check.addr) c.check.result c.args.control.now c.args.rounds.now
    (slots_of _ c.args.feeds.now.items) (g.K.Sink.held c.args.out.now) (g.K.Sink.held c.check.new.out)
    (c.check.ensures.ran run place c.args.control.now c.args.rounds.now (slots_of _ c.args.feeds.now.items) s
    (subst (Shows run place c.args.control.now) (sym c.snapshot.ensures) shows)))

pub returns-in-Change-clause-ran : goal.returns-in-Change-clause-ran
returns-in-Change-clause-ran g c = λ run place s shows.
    rw c.in-Change.is
    (one_step run place (change c.in-Change.edit) c.change.result c.change.new.control c.args.rounds.now
    (slots_of _ c.args.feeds.now.items) (g.K.Sink.held c.args.out.now) (g.K.Sink.held c.args.out.now)
    (c.change.ensures.ran run place c.args.rounds.now (slots_of _ c.args.feeds.now.items)
    (g.K.Sink.held c.args.out.now) s))

pub returns-in-Summary-clause-ran : goal.returns-in-Summary-clause-ran
returns-in-Summary-clause-ran g c = λ run place s shows.
    rw c.in-Summary.is
    (one_step run place summary c.summarize.result c.args.control.now c.args.rounds.now
    (slots_of _ c.args.feeds.now.items) (g.K.Sink.held c.args.out.now) (g.K.Sink.held c.summarize.new.out)
    (c.summarize.ensures.ran run place c.args.rounds.now (slots_of _ c.args.feeds.now.items) s))

pub returns-in-Pull-clause-shown : goal.returns-in-Pull-clause-shown
returns-in-Pull-clause-shown g c = λ run place s shows.
    rw c.in-Pull.is
    (on_ok_always c.pull_named.result
    (shows_pulled run place (length c.args.control.now.peers) c.in-Pull.session c.in-Pull.count c.args.control.now
    c.pull_named.new.control (g.T.Outlet.shown c.args.outlet.now) c.pull_named.ensures.published shows))

pub returns-in-Publish-clause-shown : goal.returns-in-Publish-clause-shown
returns-in-Publish-clause-shown g c = λ run place s shows.
    rw c.in-Publish.is (c.publish.ensures.shown (opening_of run) place.edits s.courses s.stands shows)

pub returns-in-Change-clause-shown : goal.returns-in-Change-clause-shown
returns-in-Change-clause-shown g c = λ run place s shows.
    rw c.in-Change.is
    (on_ok_weaker c.change.result
    (λ keeps. shown_edited (opening_of run) place.edits s.courses c.in-Change.edit c.args.control.now
    c.change.new.control (g.T.Outlet.shown c.args.outlet.now) s.stands keeps shows)
    c.change.ensures.published)

pub returns-in-Pull-clause-batches : goal.returns-in-Pull-clause-batches
returns-in-Pull-clause-batches g c = λ run place s.
    rw c.in-Pull.is
    (handed_nothing run place (steps_in (length c.args.control.now.peers) (Pull c.in-Pull.session c.in-Pull.count))
    c.pull_named.result (g.T.Outlet.batches c.args.outlet.now)
    (pull_quiet run place (length c.args.control.now.peers) c.in-Pull.session c.in-Pull.count))

pub returns-in-Publish-clause-batches : goal.returns-in-Publish-clause-batches
returns-in-Publish-clause-batches g c = λ run place s.
    rw c.in-Publish.is
    (c.publish.ensures.batches run place c.args.rounds.now (slots_of _ c.args.feeds.now.items) s)

pub returns-in-Round-clause-batches : goal.returns-in-Round-clause-batches
returns-in-Round-clause-batches g c = λ run place s.
    rw c.in-Round.is
    (handed_nothing run place (round ∷ []) c.end_round.result (g.T.Outlet.batches c.args.outlet.now)
    (one_quiet run place round refl))

pub returns-in-Check-clause-batches : goal.returns-in-Check-clause-batches
returns-in-Check-clause-batches g c = λ run place s.
    rw c.in-Check.is
    (handed_nothing run place (check c.in-Check.iface c.in-Check.addr ∷ []) c.check.result
    (g.T.Outlet.batches c.args.outlet.now) (one_quiet run place (check c.in-Check.iface c.in-Check.addr) refl))

pub returns-in-Change-clause-batches : goal.returns-in-Change-clause-batches
returns-in-Change-clause-batches g c = λ run place s.
    rw c.in-Change.is
    (handed_nothing run place (change c.in-Change.edit ∷ []) c.change.result (g.T.Outlet.batches c.args.outlet.now)
    (one_quiet run place (change c.in-Change.edit) refl))

pub returns-in-Summary-clause-batches : goal.returns-in-Summary-clause-batches
returns-in-Summary-clause-batches g c = λ run place s.
    rw c.in-Summary.is
    (handed_nothing run place (summary ∷ []) c.summarize.result (g.T.Outlet.batches c.args.outlet.now)
    (one_quiet run place summary refl))

pub returns-in-Pull-clause-sound : goal.returns-in-Pull-clause-sound
returns-in-Pull-clause-sound g c = on_ok_always c.pull_named.result c.requires.sound

pub returns-in-Round-clause-sound : goal.returns-in-Round-clause-sound
returns-in-Round-clause-sound g c = on_ok_always c.end_round.result c.requires.sound

pub returns-in-Check-clause-sound : goal.returns-in-Check-clause-sound
returns-in-Check-clause-sound g c = on_ok_always c.check.result c.requires.sound

pub returns-in-Change-clause-sound : goal.returns-in-Change-clause-sound
returns-in-Change-clause-sound g c = on_ok_always c.change.result c.requires.sound

pub returns-in-Summary-clause-sound : goal.returns-in-Summary-clause-sound
returns-in-Summary-clause-sound g c = on_ok_always c.summarize.result c.requires.sound

pub returns-in-Pull-clause-in_step : goal.returns-in-Pull-clause-in_step
returns-in-Pull-clause-in_step g c =
    on_ok_always c.pull_named.result
    (kept_in_step c.args.control.now c.pull_named.new.control (g.T.Outlet.shown c.args.outlet.now)
    c.pull_named.ensures.published (ap (map (λ (row : ℕ × Kind). row.0)) c.pull_named.ensures.kinds)
    c.requires.in_step)

pub returns-in-Round-clause-in_step : goal.returns-in-Round-clause-in_step
returns-in-Round-clause-in_step g c = on_ok_always c.end_round.result c.requires.in_step

pub returns-in-Check-clause-in_step : goal.returns-in-Check-clause-in_step
returns-in-Check-clause-in_step g c = on_ok_always c.check.result c.requires.in_step

pub returns-in-Change-clause-in_step : goal.returns-in-Change-clause-in_step
returns-in-Change-clause-in_step g c =
    on_ok_weaker c.change.result
    (λ keeps. kept_in_step c.args.control.now c.change.new.control (g.T.Outlet.shown c.args.outlet.now) keeps
    c.change.ensures.names c.requires.in_step)
    c.change.ensures.published

pub returns-in-Summary-clause-in_step : goal.returns-in-Summary-clause-in_step
returns-in-Summary-clause-in_step g c = on_ok_always c.summarize.result c.requires.in_step

pub returns-in-Pull-clause-grows : goal.returns-in-Pull-clause-grows
returns-in-Pull-clause-grows g c = grows_none (g.T.Outlet.batches c.args.outlet.now)

pub returns-in-Round-clause-grows : goal.returns-in-Round-clause-grows
returns-in-Round-clause-grows g c = grows_none (g.T.Outlet.batches c.args.outlet.now)

pub returns-in-Check-clause-grows : goal.returns-in-Check-clause-grows
returns-in-Check-clause-grows g c = grows_none (g.T.Outlet.batches c.args.outlet.now)

pub returns-in-Change-clause-grows : goal.returns-in-Change-clause-grows
returns-in-Change-clause-grows g c = grows_none (g.T.Outlet.batches c.args.outlet.now)

pub returns-in-Summary-clause-grows : goal.returns-in-Summary-clause-grows
returns-in-Summary-clause-grows g c = grows_none (g.T.Outlet.batches c.args.outlet.now)
