use Rattle.map_bench.proofs.threads.times_of.Given as goal

abbrev pub ghosts-on_map-L-Ledger : goal.ghosts-on_map-L-Ledger
ghosts-on_map-L-Ledger g a = record { name = a.blank.name; parts = a.blank.parts }

abbrev pub ghosts-on_map-L-MapName : goal.ghosts-on_map-L-MapName
ghosts-on_map-L-MapName g a = record { marks = a.opened.marks; callers = a.opened.callers; voxel = a.opened.voxel }
