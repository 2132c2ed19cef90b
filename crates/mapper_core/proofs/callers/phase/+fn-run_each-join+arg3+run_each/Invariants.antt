use Rattle.std.proofs.Common.{length}
use Rattle.mapper_core.proofs.callers.phase.+fn-run_each-join+arg3+run_each.Given as goal

abbrev pub decreases-run_each : goal.decreases-run_each
decreases-run_each g l = length l.passes.items

abbrev pub decreases-join+arg3 : goal.decreases-join+arg3
decreases-join+arg3 g l = length l.passes.items
