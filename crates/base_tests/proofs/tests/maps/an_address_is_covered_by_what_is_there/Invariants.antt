use Rattle.base_tests.proofs.tests.maps.an_address_is_covered_by_what_is_there.Given as goal

-- the ledger of the steps is named by its blank
abbrev pub ghosts-covers : goal.ghosts-covers
ghosts-covers g a = record { name = a.blank.name; parts = a.blank.parts }
