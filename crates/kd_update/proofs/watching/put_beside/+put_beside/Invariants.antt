use Rattle.kd_tree.specs.Shape.{nodes}
use Rattle.kd_update.proofs.watching.put_beside.+put_beside.Given as goal

abbrev pub decreases-put_beside : goal.decreases-put_beside
decreases-put_beside g l = nodes l.tree
