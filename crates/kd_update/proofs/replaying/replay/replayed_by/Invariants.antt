use Rattle.std.proofs.Common.{length}
use Rattle.kd_tree.specs.Shape.{Shape}
use Rattle.kd_tree.specs.Contents.{contents}
use Rattle.map_items.specs.Ops.{Fit}
use Rattle.kd_update.specs.Replay.{IsPerformed}
use Rattle.kd_update.proofs.replaying.replay.replayed_by.Given as goal

abbrev pub invariant-loop-rest : goal.invariant-loop-rest
invariant-loop-rest g l = record {
  fit : Fit (contents l.tree) l.rest;
  rest : (t : Shape) → IsPerformed l.large l.tree l.rest t → IsPerformed l.large l.fn.tree l.ops t;
}

abbrev pub decreases-loop-rest : goal.decreases-loop-rest
decreases-loop-rest g l = length l.rest
