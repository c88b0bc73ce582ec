use Rattle.std.proofs.lemmas.Nat.{or_lt}
use Rattle.urpf_base.proofs.Members.{InMask-or}
use Rattle.urpf_base.proofs.masks.Mask.union.Goals as goal

pub invariant_of-result : goal.invariant_of-result
invariant_of-result c = or_lt 64 _ _ c.self.invariant c.other.invariant

pub returns : goal.returns
returns c = rw (← c.self.view_is) (rw (← c.other.view_is) (InMask-or _ _))
