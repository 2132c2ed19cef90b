use Rattle.shared_tests.proofs.tests.threads.two_threads_make_a_hundred_thousand_updates_and_reads.Given as goal

abbrev pub ghosts-shared_by_two-L-Ledger : goal.ghosts-shared_by_two-L-Ledger
ghosts-shared_by_two-L-Ledger g a = record { name = a.blank.name; parts = a.blank.parts }

abbrev pub ghosts-shared_by_two-L-MapName : goal.ghosts-shared_by_two-L-MapName
ghosts-shared_by_two-L-MapName g a = record { marks = a.opened.marks; callers = a.opened.callers; voxel = a.opened.voxel }
