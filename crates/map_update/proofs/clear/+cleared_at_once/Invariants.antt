use Rattle.kd_tree.specs.Shape.{nodes}
use Rattle.map_update.proofs.clear.+cleared_at_once.Given as goal

abbrev pub decreases-cleared_at_once : goal.decreases-cleared_at_once
decreases-cleared_at_once g l = nodes l.tree
