use Rattle.std.proofs.Common.{Option, subst, sym}
use Rattle.std.proofs.lemmas.Result.{on_ok_weaker}
use Rattle.roa_irr.specs.Tables.{Table}
use Rattle.router_config.specs.Settings.{Settings}
use Rattle.control_core.specs.Controls.{IsOpened, without_pairs}
use Rattle.control_core.specs.declared.limits.Limits.{Limits}
use Rattle.run_lines.specs.Inputs.{pairs_in}
use Rattle.run_lines.specs.Runs.{run_limits}
use Rattle.run_lines.proofs.run.load_table.Goals as goal

pub returns-in-Some-clause-opened : goal.returns-in-Some-clause-opened
returns-in-Some-clause-opened g c = λ settings opened.
    on_ok_weaker c.load_pairs.result
    (λ (all : (s : Settings) (limits : Limits) → IsOpened (without_pairs s) limits c.args.control.now
    → IsOpened (record { settings = s; pairs = c.in-Some.pairs.pairs }) limits c.load_pairs.new.self).
    subst (λ (t : Option Table). IsOpened (record { settings = settings; pairs = pairs_in t }) run_limits
    c.load_pairs.new.self) (sym c.in-Some.is) (all settings run_limits opened))
    c.load_pairs.ensures.opened
