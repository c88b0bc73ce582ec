use Rattle.std.proofs.Common.{◌≡◌, ◌++◌, ◌∷◌, [], ap, arith, length, sym, ◌∙◌}
use Rattle.std.specs.Option.{option_to_list}
use Rattle.set_tests.proofs.Plain.{last_there, taken}
use Rattle.set_tests.proofs.tests.fed.Fed.take_last.Goals as goal

pub remove_row-requires : goal.remove_row-requires
remove_row-requires c =
    last_there c.args.self.now.engine.world.rows c.args.self.now.rows.items c.pop.new.self.items c.in-Some.row
    c.args.self.now.same c.in-Some.ensures.items

pub invariant_of-self-2 : goal.invariant_of-self-2
invariant_of-self-2 c = record {
  same = taken c.args.self.now.engine.world.rows c.remove_row.new.self.world.rows c.args.self.now.rows.items
      c.pop.new.self.items c.in-Some.row c.args.self.now.same c.remove_row.ensures.rows c.in-Some.ensures.items;
  few = let same = ap length c.remove_row.ensures.pairs in omega arith;
  roles = sym c.remove_row.ensures.roles ∙ c.args.self.now.roles;
}
