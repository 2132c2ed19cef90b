use Rattle.batch_near.specs.Search.{found_by}
use Rattle.batch_near.specs.Slabs.{AreFilled}
use Rattle.batch_near.proofs.each.fill_piece.Given as goal

abbrev pub invariant-loop-slab : goal.invariant-loop-slab
invariant-loop-slab l = AreFilled (found_by l.search) l.slab l.queries l.lists
