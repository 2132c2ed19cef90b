use Rattle.base_tests.proofs.tests.grown.grown.Given as goal

abbrev pub ghosts-built : goal.ghosts-built
ghosts-built a b = record { name = b.blank.name; parts = b.blank.parts }
