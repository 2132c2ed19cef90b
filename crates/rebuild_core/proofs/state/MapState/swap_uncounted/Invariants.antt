use Rattle.rebuild_core.proofs.state.MapState.swap_uncounted.Given as goal

abbrev pub ghosts-swap_by : goal.ghosts-swap_by
ghosts-swap_by a = record { name = a.blank.name; parts = a.blank.parts }
