use Rattle.mapper_core.proofs.callers.threads.threaded_plain.Given as goal

abbrev pub ghosts-run_map-L-Ledger : goal.ghosts-run_map-L-Ledger
ghosts-run_map-L-Ledger g a = record { name = a.blank.name; parts = a.blank.parts }

abbrev pub ghosts-run_map-L-MapName : goal.ghosts-run_map-L-MapName
ghosts-run_map-L-MapName g a = record { marks = a.opened.marks; callers = a.opened.callers; voxel = a.opened.voxel }
