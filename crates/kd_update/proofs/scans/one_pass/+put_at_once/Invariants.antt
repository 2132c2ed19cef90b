use Rattle.kd_tree.specs.Shape.{nodes}
use Rattle.kd_update.proofs.scans.one_pass.+put_at_once.Given as goal

abbrev pub decreases-put_at_once : goal.decreases-put_at_once
decreases-put_at_once g l = nodes l.tree
