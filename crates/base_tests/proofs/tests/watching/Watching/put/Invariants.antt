use Rattle.base_tests.proofs.tests.watching.Watching.put.Given as goal

abbrev pub ghosts-put_beside : goal.ghosts-put_beside
ghosts-put_beside g a = record { name = a.blank.name; parts = a.blank.parts }
