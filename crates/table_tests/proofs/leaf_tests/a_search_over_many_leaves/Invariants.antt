use Rattle.table_tests.proofs.leaf_tests.a_search_over_many_leaves.Given as goal

abbrev pub ghosts-found_in : goal.ghosts-found_in
ghosts-found_in g a = record { name = a.blank.name; parts = a.blank.parts }
