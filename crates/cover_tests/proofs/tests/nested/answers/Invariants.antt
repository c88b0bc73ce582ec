use Rattle.cover_tests.proofs.tests.nested.answers.Given as goal

-- the ledger of the steps is named by its blank
abbrev pub ghosts-is_feasible : goal.ghosts-is_feasible
ghosts-is_feasible g a = record { name = a.blank.name; parts = a.blank.parts }
