use Rattle.kd_update.proofs.replacing.settle.settled.Given as goal

abbrev pub ghosts-settled_by : goal.ghosts-settled_by
ghosts-settled_by a = record { name = a.blank.name; parts = a.blank.parts }
