use Rattle.std.proofs.Common.{◌≡◌, ◌++◌, List, take}
use Rattle.rebuild_parts.specs.Logs.{planned_parts}
use Rattle.kd_update.specs.Detached.{PartAt}
use Rattle.rebuild_parts.proofs.logs.forgotten.Given as goal

abbrev pub invariant-loop-part : goal.invariant-loop-part
invariant-loop-part l = (rest : List PartAt) → planned_parts l.logs.items (take l.part-index l.parts ++ rest) ≡ rest
