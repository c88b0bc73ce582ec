use Rattle.std.proofs.Common.{subst, IfOk}
use Rattle.control_core.specs.Controls.{IsOpened, without_pairs}
use Rattle.run_tests.proofs.Opened.{as_many}
use Rattle.run_tests.proofs.tests.control.opened.Goals as goal

pub returns-clause-sessions : goal.returns-clause-sessions
returns-clause-sessions g c =
    let opened : IsOpened (without_pairs c.args.config) c.args.limits c.expect.result =
    subst (λ r. IfOk r (IsOpened (without_pairs c.args.config) c.args.limits)) c.expect.ensures c.new.ensures in
    as_many c.args.config.sessions c.expect.result.peers opened.stands.stand
