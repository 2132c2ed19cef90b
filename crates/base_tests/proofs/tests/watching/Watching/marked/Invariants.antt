use Rattle.base_tests.proofs.tests.watching.Watching.marked.Given as goal

abbrev pub ghosts-mark_beside : goal.ghosts-mark_beside
ghosts-mark_beside g a = record { name = a.blank.name; parts = a.blank.parts }
