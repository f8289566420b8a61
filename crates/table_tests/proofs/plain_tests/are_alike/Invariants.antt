use Rattle.table_tests.proofs.plain_tests.are_alike.Given as goal

abbrev pub ghosts-found_cells : goal.ghosts-found_cells
ghosts-found_cells g a = record { name = a.blank.name; parts = a.blank.parts }
