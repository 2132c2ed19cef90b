use Rattle.map_bench.proofs.do_asked.Given as goal

abbrev pub ghosts-measured : goal.ghosts-measured
ghosts-measured g a = record { name = a.blank.name; parts = a.blank.parts }
