use Rattle.rebuild_core.proofs.state.MapState.plan_update_uncounted.Given as goal

abbrev pub ghosts-plan_update_by : goal.ghosts-plan_update_by
ghosts-plan_update_by a = record { name = a.blank.name; parts = a.blank.parts }
