use Rattle.bgp_wire.proofs.Framings.{has_framing, one_framing}
use Rattle.bgp_wire.proofs.laws.one_framing.Goals as goal

pub returns-clause-some : goal.returns-clause-some
returns-clause-some c = has_framing

pub returns-clause-only : goal.returns-clause-only
returns-clause-only c = one_framing
