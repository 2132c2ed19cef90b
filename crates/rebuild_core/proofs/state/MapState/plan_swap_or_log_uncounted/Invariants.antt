use Rattle.rebuild_core.proofs.state.MapState.plan_swap_or_log_uncounted.Given as goal

abbrev pub ghosts-plan_swap_or_log_by : goal.ghosts-plan_swap_or_log_by
ghosts-plan_swap_or_log_by a = record { name = a.blank.name; parts = a.blank.parts }
