use Rattle.std.proofs.Common.{◌∙◌, ℕ, ap, subst, sym, Option}
use Rattle.std.specs.Prelude.{IfErr}
use Rattle.roa_irr.specs.Tables.{Table}
use Rattle.router_config.specs.Settings.{Settings}
use Rattle.cover_table.specs.Snapshots as snapshots
use Rattle.cover_table.specs.Snapshots.{Publication}
use Rattle.control_core.specs.Controls.{IsOpened}
use Rattle.control_core.proofs.Shown.{shown_opened}
use Rattle.run_lines.specs.Inputs.{opening_of, pairs_in}
use Rattle.run_lines.specs.Places.{opening}
use Rattle.run_lines.specs.Publications.{IsInStep}
use Rattle.run_lines.specs.RunText.{AreTotals, steps_for}
use Rattle.run_lines.specs.Runs.{NamesSession, Shows, run_limits}
use Rattle.run_lines.specs.Steps.{lines_in}
use Rattle.run_lines.proofs.Emptied.{empties_none}
use Rattle.run_lines.proofs.Heads.{run_none}
use Rattle.run_lines.proofs.InStep.{opened_in_step}
use Rattle.run_lines.proofs.RunOpened.{as_many}
use Rattle.run_lines.proofs.run.run_book.Goals as goal

pub returns-in-Err-clause-ran : goal.returns-in-Err-clause-ran
returns-in-Err-clause-ran g c = λ run same tabled is told. (
  run_none run (lines_in c.args.book.now) (g.K.Sink.held c.args.out.now),
  tt,
  empties_none run (steps_for run (lines_in c.args.book.now)) _ told,
  tt,
)

pub run_control-requires-clause-slots : goal.run_control-requires-clause-slots
run_control-requires-clause-slots g c =
    c.requires.slots
    ∙ sym (as_many c.args.config.sessions c.in-Ok.opened.0.peers c.in-Ok.ensures.opened.stands.stand)

pub run_control-requires-clause-in_step : goal.run_control-requires-clause-in_step
run_control-requires-clause-in_step g c =
    subst (IsInStep c.in-Ok.opened.0) (sym c.in-Ok.ensures.shown)
    (opened_in_step (record { settings = c.args.config; pairs = pairs_in c.args.pairs.now }) run_limits
    c.in-Ok.opened.0 c.in-Ok.ensures.opened)

pub returns-clause-names : goal.returns-clause-names
returns-clause-names g c =
    subst (λ (n : ℕ). IfErr c.run_control.result (NamesSession n))
    (as_many c.args.config.sessions c.in-Ok.opened.0.peers c.in-Ok.ensures.opened.stands.stand)
    c.run_control.ensures.names

pub returns-clause-ran : goal.returns-clause-ran
returns-clause-ran g c = λ run same tabled is told.
    let opened : IsOpened (opening_of run) run_limits c.in-Ok.opened.0 =
    subst (λ (t : Option Table). IsOpened (record { settings = run.config; pairs = pairs_in t }) run_limits
    c.in-Ok.opened.0) (sym tabled)
    (subst (λ (s : Settings). IsOpened (record { settings = s; pairs = pairs_in c.args.pairs.now }) run_limits
    c.in-Ok.opened.0) (sym same) c.in-Ok.ensures.opened) in
    c.run_control.ensures.ran run opened
    (subst (λ (p : Publication). Shows run (opening run.config.sessions) c.in-Ok.opened.0 p)
    (ap (λ (s : Settings). snapshots.opening s.interfaces) same ∙ sym c.in-Ok.ensures.shown)
    (shown_opened (opening_of run) run_limits c.in-Ok.opened.0 opened))
    (subst (λ (t : Option Table). AreTotals run.config t c.in-Ok.opened.2) (sym tabled)
    (subst (λ (s : Settings). AreTotals s c.args.pairs.now c.in-Ok.opened.2) (sym same) c.in-Ok.ensures.totals))
    is told
