use Rattle.worker_tests.proofs.tests.publishers.tell.Given as goal

-- the history that was just opened, and the interfaces of the tests
abbrev pub ghosts-named : goal.ghosts-named
ghosts-named g a = record { book = a.opened.identity; opening = a.opened.opening }
