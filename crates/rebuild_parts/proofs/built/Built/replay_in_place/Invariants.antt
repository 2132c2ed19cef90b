use Rattle.rebuild_parts.proofs.built.Built.replay_in_place.Given as goal

abbrev pub ghosts-replayed_from : goal.ghosts-replayed_from
ghosts-replayed_from a = record { name = a.blank.name; parts = a.blank.parts }
