use Rattle.std.proofs.Common.{ap, ◌∙◌}
use Rattle.rpf_plain.specs.World.{roles_of, with_role}
use Rattle.rpf_plain.proofs.Listed.{roles_edited}
use Rattle.rpf_plain.proofs.plain.PlainEngineSetEngine.set_role.Goals as goal

pub returns-clause-ok : goal.returns-clause-ok
returns-clause-ok c = record {
  rows = ap (λ e. e.world.rows) c.self.view_is;
  roles = ap roles_of c.apply.ensures ∙ roles_edited c.args.iface c.args.role c.self.inside.kinds
      ∙ ap (λ e. with_role c.args.iface c.args.role e.world.roles) c.self.view_is;
  pairs = ap (λ e. e.world.pairs) c.self.view_is;
  base = ap (λ e. e.base) c.self.view_is;
}
