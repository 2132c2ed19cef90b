use Rattle.std.proofs.Common.{◌+◌, ◌*◌}
use Rattle.kd_tree.specs.Shape.{nodes}
use Rattle.kd_update.proofs.replacing.settle.+settle.Given as goal

abbrev pub decreases-settled_at : goal.decreases-settled_at
decreases-settled_at g l = 2 * nodes l.tree + 1

abbrev pub decreases-settled_along : goal.decreases-settled_along
decreases-settled_along g l = 2 * nodes l.tree
