use Rattle.mapper_tests.proofs.tests.ended.ended.Given as goal

abbrev pub ghosts-ended_on-L-Ledger : goal.ghosts-ended_on-L-Ledger
ghosts-ended_on-L-Ledger g a = record { name = a.blank.name; parts = a.blank.parts }

abbrev pub ghosts-ended_on-L-MapName : goal.ghosts-ended_on-L-MapName
ghosts-ended_on-L-MapName g a = record { marks = a.opened.marks; callers = a.opened.callers; voxel = a.opened.voxel }
