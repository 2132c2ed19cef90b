use Rattle.std.proofs.Common.{◌≡◌}
use Rattle.map_items.specs.Contents.{AreContents}
use Rattle.base_tests.proofs.tests.grown.items_at.Given as goal

abbrev pub invariant-loop-point : goal.invariant-loop-point
invariant-loop-point l = record {
  counted : l.number ≡ l.point-index;
  numbered : AreContents 0 l.number l.items.items;
}
