use Rattle.layer_tests.proofs.merged_index_tests.index_cells.Given as goal

abbrev pub ghosts-found_cells : goal.ghosts-found_cells
ghosts-found_cells a = record { name = a.blank.name; parts = a.blank.parts }
