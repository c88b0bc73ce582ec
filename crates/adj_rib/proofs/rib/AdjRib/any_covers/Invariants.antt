use Rattle.adj_rib.proofs.rib.AdjRib.any_covers.Given as goal

-- the ledger of the steps is named by its blank
abbrev pub ghosts-covers_counted : goal.ghosts-covers_counted
ghosts-covers_counted a = record { name = a.blank.name; parts = a.blank.parts }
