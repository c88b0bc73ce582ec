use Rattle.roa_irr.proofs.Outcomes.{is_skipped}
use Rattle.roa_irr.proofs.vrps.outcome_of.Goals as goal

pub returns-in-None : goal.returns-in-None
returns-in-None c = is_skipped _ (λ prefix origin gives. let e = c.in-None.ensures.only prefix origin gives in absurd cc)
