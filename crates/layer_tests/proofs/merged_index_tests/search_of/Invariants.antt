use Rattle.layer_tests.proofs.merged_index_tests.search_of.Given as goal

abbrev pub ghosts-first_pieces : goal.ghosts-first_pieces
ghosts-first_pieces a = record { name = a.blank.name; parts = a.blank.parts }
