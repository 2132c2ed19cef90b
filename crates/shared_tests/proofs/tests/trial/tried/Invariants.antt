use Rattle.shared_tests.proofs.tests.trial.tried.Given as goal

abbrev pub ghosts-tried_on-L-Ledger : goal.ghosts-tried_on-L-Ledger
ghosts-tried_on-L-Ledger g a = record { name = a.blank.name; parts = a.blank.parts }

abbrev pub ghosts-tried_on-L-MapName : goal.ghosts-tried_on-L-MapName
ghosts-tried_on-L-MapName g a = record { marks = a.opened.marks; callers = a.opened.callers; voxel = a.opened.voxel }
