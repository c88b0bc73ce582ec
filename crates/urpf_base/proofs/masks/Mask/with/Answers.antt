use Rattle.std.proofs.Common.{arith}
use Rattle.std.proofs.lemmas.Nat.{or_lt}
use Rattle.urpf_base.proofs.Members.{set_same, set_other}
use Rattle.urpf_base.proofs.masks.Mask.with.Goals as goal

pub invariant_of-result : goal.invariant_of-result
invariant_of-result c = or_lt 64 _ _ c.self.invariant (omega arith)

pub returns-clause-added : goal.returns-clause-added
returns-clause-added c = set_same _ _ _ c.number.ensures.value c.number.ensures.below

pub returns-clause-others : goal.returns-clause-others
returns-clause-others c = rw (← c.self.view_is) (set_other _ _ _ c.number.ensures.value c.number.ensures.below)
