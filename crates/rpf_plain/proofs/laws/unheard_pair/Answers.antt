use Rattle.rpf_plain.proofs.Unheard.{unheard}
use Rattle.rpf_plain.proofs.laws.unheard_pair.Goals as goal

pub returns : goal.returns
returns c = unheard
