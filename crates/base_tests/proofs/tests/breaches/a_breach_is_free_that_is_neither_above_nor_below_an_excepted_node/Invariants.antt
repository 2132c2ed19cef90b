use Rattle.base_tests.proofs.tests.breaches.a_breach_is_free_that_is_neither_above_nor_below_an_excepted_node.Given as goal

abbrev pub ghosts-dropped : goal.ghosts-dropped
ghosts-dropped g a = record { name = a.blank.name; parts = a.blank.parts }
