use Rattle.base_tests.proofs.tests.numbered.Numbered.put.Given as goal

abbrev pub ghosts-put_next : goal.ghosts-put_next
ghosts-put_next g a = record { name = a.blank.name; parts = a.blank.parts }
