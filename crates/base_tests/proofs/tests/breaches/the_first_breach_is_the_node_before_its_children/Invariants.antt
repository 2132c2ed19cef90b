use Rattle.base_tests.proofs.tests.breaches.the_first_breach_is_the_node_before_its_children.Given as goal

abbrev pub ghosts-first_breaches : goal.ghosts-first_breaches
ghosts-first_breaches g a = record { name = a.blank.name; parts = a.blank.parts }
