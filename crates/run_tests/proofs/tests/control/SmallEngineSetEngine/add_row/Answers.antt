use Rattle.std.proofs.Common.{inl}
use Rattle.std.specs.Prelude.{IsTrue}
use Rattle.run_tests.proofs.SmallEngines.{not_there}
use Rattle.run_tests.proofs.tests.control.SmallEngineSetEngine.add_row.Goals as goal

pub returns-then-not-has-clause-absent : goal.returns-then-not-has-clause-absent
returns-then-not-has-clause-absent c =
    inl (not_there c.args.self.now.sets.world c.args.iface c.args.prefix c.args.origin c.cell.result c.cell.ensures
    (λ there. let has : IsTrue c.has.result = c.has.ensures.value.1 there in let not = c.if-not-has.true in cc))
