use Rattle.std.proofs.Common.{arith}
use Rattle.kd_tree.specs.Shape.{numbers}
use Rattle.kd_update.proofs.Numbers.{left_few, unheld, below_next}
use Rattle.base_tests.proofs.tests.numbered.put_on.Goals as goal

pub with_room-requires : goal.with_room-requires
with_room-requires g c = omega (arith, left_few c.args.map.next c.args.map.tree c.size-size.ensures.sound c.args.map.below)

pub put-requires-clause-new : goal.put-requires-clause-new
put-requires-clause-new g c = unheld c.args.map.next c.in_ok-tree.tree (λ n k. c.args.map.below n (c.in_ok-tree.ensures.numbers n k))

pub invariant_of-result : goal.invariant_of-result
invariant_of-result g c = record {
  below = below_next c.args.map.next (numbers c.in_ok-tree.tree) (numbers c.in_ok-tree-2.tree) c.in_ok-tree-2.ensures.numbers (λ n k. c.args.map.below n (c.in_ok-tree.ensures.numbers n k));
}
