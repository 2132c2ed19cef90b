use Rattle.map_tour.proofs.main.Given as goal

abbrev pub ghosts-tour : goal.ghosts-tour
ghosts-tour a = record { name = a.blank.name; parts = a.blank.parts }
