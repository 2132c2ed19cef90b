use Rattle.batch_near.specs.Search.{found_by}
use Rattle.batch_near.specs.Slabs.{AreFilled}
use Rattle.batch_near.proofs.Slabs.{AreFilledTo}
use Rattle.batch_near.proofs.each.fill_slab.Given as goal

abbrev pub invariant-loop-place : goal.invariant-loop-place
invariant-loop-place l =
    let f = found_by l.search in
    AreFilled f l.slab l.queries l.lists × AreFilledTo f l.slab l.place l.queries l.lists
