use Rattle.base_tests.proofs.tests.scratches.trees_built_anew_hold_what_was_left_and_the_new_items.Given as goal

abbrev pub ghosts-rebuilt_with : goal.ghosts-rebuilt_with
ghosts-rebuilt_with g a = record { name = a.blank.name; parts = a.blank.parts }
