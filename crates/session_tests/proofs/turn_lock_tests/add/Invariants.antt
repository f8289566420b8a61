use Rattle.session_tests.proofs.turn_lock_tests.add.Given as goal

abbrev pub ghosts-add_as : goal.ghosts-add_as
ghosts-add_as g a = record { it = record { number = a.number } }
