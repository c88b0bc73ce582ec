use Rattle.roa_irr.proofs.Outcomes.{both}
use Rattle.roa_irr.proofs.vrps.read_pair.Goals as goal

pub returns-in_default-read_prefix-clause-only : goal.returns-in_default-read_prefix-clause-only
returns-in_default-read_prefix-clause-only c prefix origin asn block =
    let e = c.in_default-read_prefix.ensures.only prefix block in absurd cc

pub returns-clause-only : goal.returns-clause-only
returns-clause-only c prefix origin asn block =
    both _ _ _ _ (c.in-Some-read_prefix.ensures.only prefix block) (c.in-Some.ensures.only origin asn)
