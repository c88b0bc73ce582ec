use Rattle.urpf_base.specs.Cells.{AllBefore}
use Rattle.urpf_base.proofs.Ascending.{AreAscending-push}
use Rattle.urpf_base.proofs.cells.Changes.push.Goals as goal

pub invariant_of-self : goal.invariant_of-self
invariant_of-self c = rw c.in_default.ensures.items c.self.invariant

pub invariant_of-self-2 : goal.invariant_of-self-2
invariant_of-self-2 c =
    let before : AllBefore c.self.inside.items.items c.args.change.prefix = rw c.self.view_is c.requires in
    rw c.in-Ok.ensures.items (AreAscending-push _ c.args.change c.self.invariant before)
