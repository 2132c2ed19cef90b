use Rattle.std.proofs.Common.{arith, subst, sym}
use Rattle.std.specs.List.{AllByRecursion}
use Rattle.mapper_core.specs.Meetings.{HasCaller}
use Rattle.mapper_core.proofs.callers.threads.threaded_plain.Goals as goal

pub run_map-requires-clause-no_more : goal.run_map-requires-clause-no_more
run_map-requires-clause-no_more g c κs within = λ n some all.
    let named = subst (AllByRecursion (HasCaller n)) (sym c.commands.ensures.all) all in
    omega (arith, c.in_ok-opened.ensures.callers, c.callers_in-callers.ensures.no_more n some named)
