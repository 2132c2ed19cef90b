use Rattle.rebuild_core.proofs.Outcome.{entered_left}
use Rattle.rebuild_core.proofs.state.MapState.update.Goals as goal

pub returns-clause-leaves : goal.returns-clause-leaves
returns-clause-leaves g c = entered_left c.args.update _ _ _ c.in_ok-planned.planned c.in_ok-planned.ensures.same c.enter_step.ensures.state c.in_ok-planned.ensures.leaves
