use Rattle.std.proofs.Common.{◌+◌, ◌*◌}
use Rattle.kd_tree.specs.Shape.{nodes}
use Rattle.kd_search.proofs.rivals.+rivals.Given as goal

abbrev pub decreases-add_from : goal.decreases-add_from
decreases-add_from l = 2 * nodes l.tree.now + 1

abbrev pub decreases-add_under : goal.decreases-add_under
decreases-add_under l = 2 * nodes l.tree.now
