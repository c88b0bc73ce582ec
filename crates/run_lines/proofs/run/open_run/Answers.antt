use Rattle.std.proofs.Common.{[], ℕ, arith, map, refl}
use Rattle.std.proofs.lemmas.List.{length-map}
use Rattle.control_core.specs.Controls.{first_mark}
use Rattle.report_text.specs.Lines.{publish_line}
use Rattle.run_lines.specs.RunText.{head_text}
use Rattle.run_lines.proofs.Heads.{head_cut_first, head_cut_second, head_parts, head_written}
use Rattle.run_lines.proofs.run.open_run.Goals as goal

pub returns-in-Err-clause-front : goal.returns-in-Err-clause-front
returns-in-Err-clause-front g c = λ sessions marks.
    head_cut_first (head_text c.args.totals.now sessions) c.put_run.new.to
    (publish_line 0 0 0 (map (λ s. 0) sessions)) (g.K.Sink.held c.args.out.now) (g.K.Sink.held c.offer.new.out)
    (head_parts c.args.totals.now sessions c.put_run.new.to (publish_line 0 0 0 (map (λ s. 0) sessions))
    c.put_run.ensures refl)
    c.in-Err.ensures.cut_short

pub returns-clause-ok : goal.returns-clause-ok
returns-clause-ok g c = λ sessions marks.
    head_written c.offer-2.result (head_text c.args.totals.now sessions) c.put_run.new.to c.put_last_mark.new.to
    (g.K.Sink.held c.args.out.now) (g.K.Sink.held c.offer.new.out) (g.K.Sink.held c.offer-2.new.out)
    (head_parts c.args.totals.now sessions c.put_run.new.to c.put_last_mark.new.to c.put_run.ensures
    (c.put_last_mark.ensures [] (first_mark sessions) marks))
    c.in_default.ensures.ok c.offer-2.ensures.ok

pub returns-clause-front : goal.returns-clause-front
returns-clause-front g c = λ sessions marks.
    head_cut_second c.offer-2.result (head_text c.args.totals.now sessions) c.put_run.new.to c.put_last_mark.new.to
    (g.K.Sink.held c.args.out.now) (g.K.Sink.held c.offer.new.out) (g.K.Sink.held c.offer-2.new.out)
    (head_parts c.args.totals.now sessions c.put_run.new.to c.put_last_mark.new.to c.put_run.ensures
    (c.put_last_mark.ensures [] (first_mark sessions) marks))
    c.in_default.ensures.ok c.offer-2.ensures.cut_short

pub put_last_mark-requires-clause-few : goal.put_last_mark-requires-clause-few
put_last_mark-requires-clause-few g c = (
  [],
  first_mark c.requires.0,
  c.requires.1,
  omega (arith, c.requires.2, length-map {B = ℕ} c.requires.0 (λ s. 0)),
)
