use Rattle.live_run.proofs.run.run_live.Given as goal

-- the history that was just opened, and the interfaces of the configuration
abbrev pub ghosts-run_named : goal.ghosts-run_named
ghosts-run_named g a = record { book = a.opened.identity; opening = a.opened.opening }
