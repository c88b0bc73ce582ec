use Rattle.std.proofs.Common.{◌∙◌, refl, sym}
use Rattle.run_lines.specs.Inputs.{pairs_in}
use Rattle.live_control.proofs.Beginning.{ready_first}
use Rattle.live_control.proofs.control.LiveControl.start.Goals as goal

pub returns-in-Ok-start-clause-ready : goal.returns-in-Ok-start-clause-ready
returns-in-Ok-start-clause-ready g c = λ book configured few sessions.
    ready_first (record { settings = c.args.config; pairs = pairs_in c.args.pairs.now }) book _ configured few sessions
    c.in-Ok.ensures.opened (c.in-Ok-start.ensures.shown ∙ c.in-Ok.ensures.shown) c.in-Ok-start.ensures.batches
    (sym c.requires.named.1 ∙ c.requires.interfaces) refl
