use Rattle.kd_tree.specs.Shape.{nodes}
use Rattle.rebuild_parts.proofs.balanced.+is_balanced.Given as goal

abbrev pub decreases-is_balanced : goal.decreases-is_balanced
decreases-is_balanced l = nodes l.tree.now
