use Rattle.urpf_base.proofs.Members.{InMask-and}
use Rattle.urpf_base.proofs.masks.Mask.intersection.Goals as goal

pub returns : goal.returns
returns c = rw (← c.self.view_is) (rw (← c.other.view_is) (InMask-and _ _))
