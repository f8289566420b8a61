use Rattle.table_tests.proofs.seg_table_tests.find_and_walk_agree_with_a_flat_list.Given as goal

abbrev pub ghosts-found_cells : goal.ghosts-found_cells
ghosts-found_cells g a = record { name = a.blank.name; parts = a.blank.parts }
