use Rattle.rebuild_parts.proofs.built.Built.try_clone.Given as goal

abbrev pub ghosts-copied_by : goal.ghosts-copied_by
ghosts-copied_by a = record { name = a.blank.name; parts = a.blank.parts }
