use Rattle.urpf_base.proofs.Members.{masks_same}
use Rattle.urpf_base.proofs.laws.members_of_masks.Goals as goal

pub returns-clause-same : goal.returns-clause-same
returns-clause-same c = masks_same
