use Rattle.base_tests.proofs.tests.watching.Watching.put_at_once.Given as goal

abbrev pub ghosts-put_scan_beside : goal.ghosts-put_scan_beside
ghosts-put_scan_beside g a = record { name = a.blank.name; parts = a.blank.parts }
