use Rattle.std.proofs.Common.{◌∙◌, ℕ, [], ◌∷◌, List, Option, Err, ap, arith, subst, sym}
use Rattle.cover_table.specs.declared.batch.Batch.{Batch}
use Rattle.report_text.specs.Lines.{publish_line}
use Rattle.control_core.specs.Controls.{IsShown, items_of, position_of}
use Rattle.control_core.specs.Worlds.{last_number}
use Rattle.control_core.specs.declared.limits.RunFault.TheVariants.{OutOfMemory}
use Rattle.control_core.proofs.LastMarks.{last_number-push}
use Rattle.control_core.proofs.Shown.{shown_published}
use Rattle.run_lines.specs.Inputs.{opening_of}
use Rattle.run_lines.specs.Publications.{Grows, HandedOn, IsInStep}
use Rattle.run_lines.specs.Steps.{publish}
use Rattle.run_lines.proofs.Emptied.{emptied_at}
use Rattle.run_lines.proofs.HandingOn.{grows_none, handed_before, handed_published}
use Rattle.run_lines.proofs.InStep.{in_step_follows, published_in_step}
use Rattle.run_lines.proofs.Showing.{on_ok_always}
use Rattle.run_lines.proofs.StepResults.{batch_at, published_at, published_gives}
use Rattle.run_lines.proofs.Written.{step_ran, step_starved}
use Rattle.run_lines.proofs.run_line.publish.Goals as goal

pub returns-in-Err-clause-ran : goal.returns-in-Err-clause-ran
returns-in-Err-clause-ran g c = λ run place rounds slots s.
    let now = emptied_at run place c.args.control.now rounds slots s in
    step_starved run place publish c.publish_batch.new.self rounds slots (g.K.Sink.held c.args.out.now) now now

pub returns-in-Err-take_over-clause-ran : goal.returns-in-Err-take_over-clause-ran
returns-in-Err-take_over-clause-ran g c = λ run place rounds slots s.
    let now = emptied_at run place c.args.control.now rounds slots s in
    step_starved run place publish c.publish_batch.new.self rounds slots (g.K.Sink.held c.args.out.now) now now

pub returns-in-Err-take_over-clause-number : goal.returns-in-Err-take_over-clause-number
returns-in-Err-take_over-clause-number g c =
    omega (
      arith,
      c.in-Ok.ensures.ok.number,
      ap last_number c.in-Ok.ensures.ok.marks,
      last_number-push c.args.control.now.marks (position_of c.args.control.now c.in-Ok.batch.number),
    )

pub take_over-requires-clause-follows : goal.take_over-requires-clause-follows
take_over-requires-clause-follows g c =
    in_step_follows c.args.control.now c.publish_batch.new.self c.in-Ok.batch (g.T.Outlet.shown c.args.outlet.now)
    c.in-Ok.ensures.ok c.requires.in_step

pub returns-in-Err-clause-batches : goal.returns-in-Err-clause-batches
returns-in-Err-clause-batches g c = λ run place rounds slots s.
    handed_before run place (publish ∷ []) OutOfMemory (g.T.Outlet.batches c.args.outlet.now)

pub returns-in-Err-take_over-clause-batches : goal.returns-in-Err-take_over-clause-batches
returns-in-Err-take_over-clause-batches g c = λ run place rounds slots s.
    subst (λ (list : Option (List Batch)). HandedOn run place (publish ∷ []) (Err OutOfMemory)
    (g.T.Outlet.batches c.args.outlet.now) list) (sym c.in-Err-take_over.ensures.batches)
    (handed_before run place (publish ∷ []) OutOfMemory (g.T.Outlet.batches c.args.outlet.now))

pub returns-clause-batches : goal.returns-clause-batches
returns-clause-batches g c = λ run place rounds slots s.
    handed_published run place c.in-Ok.batch c.offer.result (g.T.Outlet.batches c.args.outlet.now)
    (g.T.Outlet.batches c.take_over.new.self)
    (batch_at run place c.args.control.now c.publish_batch.new.self rounds slots c.in-Ok.batch s c.in-Ok.ensures.ok
    (c.in-Ok.ensures.difference (opening_of run) place.edits s.courses s.stands))
    c.in_default.ensures.batches

pub returns-in-Err-clause-grows : goal.returns-in-Err-clause-grows
returns-in-Err-clause-grows g c = grows_none (g.T.Outlet.batches c.args.outlet.now)

pub returns-in-Err-take_over-clause-grows : goal.returns-in-Err-take_over-clause-grows
returns-in-Err-take_over-clause-grows g c =
    subst (Grows (g.T.Outlet.batches c.args.outlet.now)) (sym c.in-Err-take_over.ensures.batches)
    (grows_none (g.T.Outlet.batches c.args.outlet.now))

pub returns-clause-grows : goal.returns-clause-grows
returns-clause-grows g c = (c.in-Ok.batch ∷ [], c.in_default.ensures.batches)

pub returns-clause-sound : goal.returns-clause-sound
returns-clause-sound g c = on_ok_always c.offer.result c.in_default.ensures.sound

pub returns-clause-in_step : goal.returns-clause-in_step
returns-clause-in_step g c =
    on_ok_always c.offer.result
    (subst (IsInStep c.publish_batch.new.self) (sym c.in_default.ensures.shown)
    (published_in_step c.args.control.now c.publish_batch.new.self c.in-Ok.batch (g.T.Outlet.shown c.args.outlet.now)
    c.in-Ok.ensures.ok))

pub returns-clause-shown : goal.returns-clause-shown
returns-clause-shown g c = λ opening edits courses stands shown.
    on_ok_always c.offer.result
    (subst (IsShown opening edits c.publish_batch.new.self) (sym c.in_default.ensures.shown)
    (shown_published opening edits courses c.args.control.now c.publish_batch.new.self c.in-Ok.batch
    (g.T.Outlet.shown c.args.outlet.now) stands c.in-Ok.ensures.ok shown))

pub returns-clause-ran : goal.returns-clause-ran
returns-clause-ran g c = λ run place rounds slots s.
    step_ran run place publish c.put_last_mark.new.to c.offer.result c.publish_batch.new.self rounds slots
    (g.K.Sink.held c.args.out.now) (g.K.Sink.held c.offer.new.out)
    (published_gives run place c.args.control.now c.publish_batch.new.self rounds slots c.in-Ok.batch
    c.put_last_mark.new.to s c.in-Ok.ensures.ok
    (c.in-Ok.ensures.difference (opening_of run) place.edits s.courses s.stands)
    (c.put_last_mark.ensures c.args.control.now.marks (position_of c.args.control.now c.in-Ok.batch.number)
    (c.marks.ensures ∙ c.in-Ok.ensures.ok.marks)
    ∙ ap (λ (n : ℕ). publish_line c.in-Ok.batch.number c.args.control.now.edits n (items_of c.args.control.now.peers))
    c.cells_of-cells.ensures))
    (emptied_at run place c.args.control.now rounds slots s)
    (published_at run place c.args.control.now c.publish_batch.new.self rounds slots c.in-Ok.batch s c.in-Ok.ensures.ok
    (c.in-Ok.ensures.stands (opening_of run) place.edits s.courses s.stands) c.in-Ok.ensures.able.1)
    c.offer.ensures.ok c.offer.ensures.cut_short c.offer.ensures.err

pub returns-clause-number : goal.returns-clause-number
returns-clause-number g c =
    omega (
      arith,
      c.in-Ok.ensures.ok.number,
      ap last_number c.in-Ok.ensures.ok.marks,
      last_number-push c.args.control.now.marks (position_of c.args.control.now c.in-Ok.batch.number),
    )
