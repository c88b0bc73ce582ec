use Rattle.std.proofs.Common.{ap, subst}
use Rattle.session_fsm.specs.Table.{SessionState, Step, Outcome}
use Rattle.session_fsm.proofs.StepLaws.{one_outcome}
use Rattle.session_fsm.proofs.machine.Session.step.Goals as goal

pub returns-clause-row : goal.returns-clause-row
returns-clause-row c =
    subst (λ (s : SessionState). Step s.config s.state c.args.item c.row-next.result) c.self.view_is c.row-next.ensures

pub returns-clause-only : goal.returns-clause-only
returns-clause-only c outcome step =
    one_outcome c.args.self.now.config c.args.self.now.state c.args.item _ outcome (returns-clause-row c) step

pub returns-clause-resets : goal.returns-clause-resets
returns-clause-resets c cause = (
  λ e. (
    c.row-next.result.0,
    subst (λ effect. Step c.args.self.now.config c.args.self.now.state c.args.item (c.row-next.result.0, effect)) e
        (returns-clause-row c),
  ),
  λ x. ap (λ (o : Outcome). o.1) (returns-clause-only c _ x.1),
)
