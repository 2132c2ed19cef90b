use Rattle.rebuild_parts.proofs.job.Job.build.Given as goal

abbrev pub ghosts-tree_by : goal.ghosts-tree_by
ghosts-tree_by a = record { name = a.blank.name; parts = a.blank.parts }
