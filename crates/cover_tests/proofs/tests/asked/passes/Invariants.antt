use Rattle.cover_tests.proofs.tests.asked.passes.Given as goal

-- the ledger of the steps is named by its blank
abbrev pub ghosts-passes_counted : goal.ghosts-passes_counted
ghosts-passes_counted a = record { name = a.blank.name; parts = a.blank.parts }
