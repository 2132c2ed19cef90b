use Rattle.std.proofs.Common.{◌≡◌, ◌++◌, drop}
use Rattle.kd_update.specs.Replay.{items_put}
use Rattle.kd_update.proofs.replaying.runs.items_put.Given as goal

abbrev pub invariant-loop-op : goal.invariant-loop-op
invariant-loop-op l = l.items.items ++ items_put (drop l.op-index l.ops) ≡ items_put l.ops
