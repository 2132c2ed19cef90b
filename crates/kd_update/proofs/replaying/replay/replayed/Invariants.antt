use Rattle.kd_update.proofs.replaying.replay.replayed.Given as goal

abbrev pub ghosts-replayed_by : goal.ghosts-replayed_by
ghosts-replayed_by a = record { name = a.blank.name; parts = a.blank.parts }
