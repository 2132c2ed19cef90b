use Rattle.base_tests.proofs.tests.apart.forty_suspended_items_stay_so_when_taken_apart.Given as goal

abbrev pub ghosts-taken_apart : goal.ghosts-taken_apart
ghosts-taken_apart g a = record { name = a.blank.name; parts = a.blank.parts }
