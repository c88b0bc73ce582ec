use Rattle.std.proofs.Common.{sym, subst}
use Rattle.ip_text.specs.Prefixes.{SpellsAsn, SpellsPrefix}
use Rattle.roa_irr.proofs.Outcomes.{same_text}
use Rattle.roa_irr.proofs.vrps.pair_of.Goals as goal

pub returns-clause-only : goal.returns-clause-only
returns-clause-only c prefix origin gives =
    let first = same_text c.in-Some.first.now gives.first _ c.in-Some.ensures.value gives.at_first in
    let second = same_text c.in-Some-get.second.now gives.second _ c.in-Some-get.ensures.value gives.at_second in
    c.read_pair.ensures.only prefix origin (subst (λ t. SpellsAsn t origin) (sym first) gives.asn)
    (subst (λ t. SpellsPrefix t prefix) (sym second) gives.block)
