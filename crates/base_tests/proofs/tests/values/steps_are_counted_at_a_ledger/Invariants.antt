use Rattle.base_tests.proofs.tests.values.steps_are_counted_at_a_ledger.Given as goal

abbrev pub ghosts-two_steps : goal.ghosts-two_steps
ghosts-two_steps a = record { name = a.blank.name; parts = a.blank.parts }
