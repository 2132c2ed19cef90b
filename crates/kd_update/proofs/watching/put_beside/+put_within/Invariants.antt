use Rattle.kd_tree.specs.Shape.{nodes}
use Rattle.kd_update.proofs.watching.put_beside.+put_within.Given as goal

abbrev pub decreases-put_within : goal.decreases-put_within
decreases-put_within g l = nodes l.tree
