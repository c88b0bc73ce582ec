use Rattle.std.proofs.Common.{◌≡◌, ◌++◌, ◌∷◌, [], ap, length, not, sym, subst, ◌∙◌, arith, rules}
use Rattle.rpf_plain.specs.Engine.{AddsRow}
use Rattle.std.specs.Option.{IsSome}
use Rattle.rpf_plain.specs.World.{IsConfigured}
use Rattle.rpf_plain.proofs.Listed.{configured}
use Rattle.set_tests.proofs.Plain.{added, few}
use Rattle.set_tests.proofs.tests.fed.Fed.add.Goals as goal

pub add_row-requires : goal.add_row-requires
add_row-requires c = record {
  configured = subst (λ roles. IsConfigured roles c.args.row.now.iface) (sym c.args.self.now.roles)
      ((configured c.args.self.now.kinds c.args.row.now.iface).1
      (subst IsSome c.kind.ensures (c.is_none.ensures ∙ ap not c.if-is_none.false)));
  room = few c.args.self.now.engine.world.rows c.args.self.now.rows.items c.args.self.now.same (omega arith);
}

pub invariant_of-self-in-Ok-add_row : goal.invariant_of-self-in-Ok-add_row
invariant_of-self-in-Ok-add_row c =
    let row = c.args.row.now in
    let pushed : c.push.new.self.items ≡ c.args.self.now.rows.items ++ row ∷ [] = search rules in
    let adds : AddsRow row c.args.self.now.engine c.add_row.new.self = search rules in
    record {
      same = added c.args.self.now.engine.world.rows c.add_row.new.self.world.rows c.args.self.now.rows.items
          c.push.new.self.items row c.args.self.now.same adds.rows pushed;
      few = let same = ap length adds.pairs in omega arith;
      roles = adds.roles ∙ c.args.self.now.roles;
    }
