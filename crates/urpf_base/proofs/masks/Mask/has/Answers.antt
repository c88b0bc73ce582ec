use Rattle.urpf_base.proofs.Members.{InMask-within}
use Rattle.urpf_base.proofs.masks.Mask.has.Goals as goal

pub returns-clause-within : goal.returns-clause-within
returns-clause-within c = rw (← c.self.view_is) (λ i. InMask-within _ i c.self.invariant)
