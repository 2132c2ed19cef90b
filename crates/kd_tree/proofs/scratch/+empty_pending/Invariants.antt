use Rattle.kd_tree.specs.Shape.{nodes}
use Rattle.kd_tree.proofs.scratch.+empty_pending.Given as goal

abbrev pub decreases-empty_pending : goal.decreases-empty_pending
decreases-empty_pending l = nodes l.tree
