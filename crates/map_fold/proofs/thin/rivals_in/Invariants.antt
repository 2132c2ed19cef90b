use Rattle.std.proofs.Common.{drop}
use Rattle.map_fold.specs.Answers.{inside_all}
use Rattle.map_fold.specs.Rivals.{AreFound}
use Rattle.map_fold.proofs.thin.rivals_in.Given as goal

abbrev pub invariant-loop-item : goal.invariant-loop-item
invariant-loop-item l = AreFound (inside_all l.items l.cube) (inside_all (drop l.item-index l.items) l.cube) l.found
