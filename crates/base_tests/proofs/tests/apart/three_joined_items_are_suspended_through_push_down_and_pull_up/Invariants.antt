use Rattle.base_tests.proofs.tests.apart.three_joined_items_are_suspended_through_push_down_and_pull_up.Given as goal

abbrev pub ghosts-three_joined : goal.ghosts-three_joined
ghosts-three_joined g a = record { name = a.blank.name; parts = a.blank.parts }
