use Rattle.epoch_tests.proofs.tests.threads.a_thread_follows_what_another_one_publishes.Given as goal

-- the history that was just opened, and the interfaces of the test
abbrev pub ghosts-named : goal.ghosts-named
ghosts-named g a = record { book = a.opened.identity; opening = a.opened.opening }
