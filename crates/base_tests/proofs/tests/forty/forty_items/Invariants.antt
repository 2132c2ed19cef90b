use Rattle.map_items.specs.Contents.{AreContents}
use Rattle.base_tests.proofs.tests.forty.forty_items.Given as goal

abbrev pub invariant-loop-number : goal.invariant-loop-number
invariant-loop-number g l = AreContents 0 l.number l.items.items
