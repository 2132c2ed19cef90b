use Rattle.base_tests.proofs.tests.forty.forty_after.Given as goal

abbrev pub ghosts-tagged_forty : goal.ghosts-tagged_forty
ghosts-tagged_forty g a = record { name = a.blank.name; parts = a.blank.parts }
