use Rattle.std.proofs.Common.{◌≡◌}
use Rattle.rebuild_parts.specs.Logs.{planned_parts}
use Rattle.rebuild_parts.proofs.logs.relog_all.Given as goal

abbrev pub invariant-loop-log : goal.invariant-loop-log
invariant-loop-log l = planned_parts l.log-iterator.rest.items l.parts.items ≡ planned_parts l.fn.logs.items l.fn.parts.items
