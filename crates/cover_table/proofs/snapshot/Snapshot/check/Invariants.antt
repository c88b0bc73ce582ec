use Rattle.cover_table.proofs.snapshot.Snapshot.check.Given as goal

-- the ledger is that of the blank
abbrev pub ghosts-passes_counted : goal.ghosts-passes_counted
ghosts-passes_counted a = record { name = a.blank.name; parts = a.blank.parts }
