use Rattle.kd_tree.specs.Shape.{nodes}
use Rattle.kd_mark.proofs.mark.+marked_within.Given as goal

abbrev pub decreases-marked_within : goal.decreases-marked_within
decreases-marked_within g l = nodes l.tree
