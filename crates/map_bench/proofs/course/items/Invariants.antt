use Rattle.map_items.specs.Contents.{AreContents}
use Rattle.map_bench.proofs.course.items.Given as goal

abbrev pub invariant-loop-number : goal.invariant-loop-number
invariant-loop-number l = AreContents 0 l.number l.items
