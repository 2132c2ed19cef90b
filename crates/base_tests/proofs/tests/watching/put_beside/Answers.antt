use Rattle.kd_tree.specs.Shape.{numbers}
use Rattle.kd_update.proofs.Numbers.{unheld, below_next}
use Rattle.base_tests.proofs.tests.watching.put_beside.Goals as goal

pub put_watched-requires-clause-new : goal.put_watched-requires-clause-new
put_watched-requires-clause-new g c = unheld c.args.at.map.next c.args.at.map.tree c.args.at.map.below

pub invariant_of-map : goal.invariant_of-map
invariant_of-map g c = record {
  below = below_next c.args.at.map.next (numbers c.args.at.map.tree) (numbers c.in-Ok.tree) c.in-Ok.ensures.numbers c.args.at.map.below;
}
