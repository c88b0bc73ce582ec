use Rattle.epoch_tests.proofs.tests.stories.thirty_two_passes_are_handed_out_and_each_checks.Given as goal

-- the history that was just opened, and the interfaces of the test
abbrev pub ghosts-named : goal.ghosts-named
ghosts-named g a = record { book = a.opened.identity; opening = a.opened.opening }
