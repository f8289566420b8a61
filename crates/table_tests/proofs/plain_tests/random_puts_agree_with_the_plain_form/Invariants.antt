use Rattle.table_tests.proofs.plain_tests.random_puts_agree_with_the_plain_form.Given as goal

abbrev pub ghosts-agree_on : goal.ghosts-agree_on
ghosts-agree_on g a = record { name = a.blank.name; parts = a.blank.parts }
