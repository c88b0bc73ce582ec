use Rattle.std.proofs.Common.{length, ap, not, sym, subst, ◌∙◌}
use Rattle.std.specs.Option.{IsSome}
use Rattle.rpf_plain.specs.World.{IsConfigured, roles_of, with_role}
use Rattle.rpf_plain.proofs.Listed.{configured, roles_edited}
use Rattle.set_bench.proofs.filled.Filled.set_role.Goals as goal

pub set_role-requires : goal.set_role-requires
set_role-requires c =
    subst (λ roles. IsConfigured roles c.args.iface) (sym c.args.self.now.roles)
    ((configured c.args.self.now.kinds c.args.iface).1
    (subst IsSome c.kind.ensures (c.is_none.ensures ∙ ap not c.if-is_none.false)))

pub invariant_of-self-2 : goal.invariant_of-self-2
invariant_of-self-2 c = record {
  count = c.args.self.now.count ∙ sym (ap length c.in_ok-set_role.ensures.ok.rows);
  roles = c.in_ok-set_role.ensures.ok.roles ∙ ap (with_role c.args.iface c.args.role) c.args.self.now.roles
      ∙ sym (ap roles_of c.apply.ensures ∙ roles_edited c.args.iface c.args.role c.args.self.now.kinds);
}
