use Rattle.urpf_base.proofs.Members.{clear_same, clear_other}
use Rattle.urpf_base.proofs.masks.Mask.without.Goals as goal

pub returns-clause-gone : goal.returns-clause-gone
returns-clause-gone c = clear_same _ _ _ c.number.ensures.value c.number.ensures.below

pub returns-clause-others : goal.returns-clause-others
returns-clause-others c =
    rw (← c.self.view_is) (clear_other _ _ _ c.self.invariant c.number.ensures.value c.number.ensures.below)
