use Rattle.std.proofs.Common.{sym, ◌∙◌}
use Rattle.router_config.proofs.kinds.Kinds.apply.Goals as goal
use Rattle.router_config.proofs.Ascending.{ascending-written}

pub invariant_of-self : goal.invariant_of-self
invariant_of-self c =
    let lent = c.deref_mut.ensures in
    ascending-written c.args.edit.now _ _ _ _ _ lent.value c.apply_to.ensures (sym lent.len ∙ sym c.apply_to.auto.rows)
    c.self.invariant
