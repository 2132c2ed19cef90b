use Rattle.base_tests.proofs.tests.replacing.put_left.Given as goal

abbrev pub ghosts-put_in : goal.ghosts-put_in
ghosts-put_in g a = record { name = a.blank.name; parts = a.blank.parts }
