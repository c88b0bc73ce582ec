use Rattle.set_bench.proofs.published.publish_and_check.Given as goal

-- the history that was just opened, and its interfaces
abbrev pub ghosts-named : goal.ghosts-named
ghosts-named g a = record { book = a.opened.identity; opening = a.opened.opening }
