use Rattle.kd_tree.specs.Shape.{nodes}
use Rattle.kd_update.proofs.points.insert.+put_below.Given as goal

abbrev pub decreases-put_below : goal.decreases-put_below
decreases-put_below g l = nodes l.tree
