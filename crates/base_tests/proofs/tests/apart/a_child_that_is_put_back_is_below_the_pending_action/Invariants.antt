use Rattle.base_tests.proofs.tests.apart.a_child_that_is_put_back_is_below_the_pending_action.Given as goal

abbrev pub ghosts-put_back : goal.ghosts-put_back
ghosts-put_back g a = record { name = a.blank.name; parts = a.blank.parts }
