use Rattle.transcript_check.proofs.tree_map.TreeMapHeldMap.apply.Given as goal

abbrev pub ghosts-apply_by : goal.ghosts-apply_by
ghosts-apply_by a = record { name = a.blank.name; parts = a.blank.parts }
