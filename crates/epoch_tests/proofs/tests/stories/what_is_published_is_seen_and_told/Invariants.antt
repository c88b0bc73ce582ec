use Rattle.epoch_tests.proofs.tests.stories.what_is_published_is_seen_and_told.Given as goal

-- the history that was just opened, and the interfaces of the test
abbrev pub ghosts-named : goal.ghosts-named
ghosts-named g a = record { book = a.opened.identity; opening = a.opened.opening }
