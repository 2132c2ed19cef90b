use Rattle.std.proofs.Common.{◌≡◌, drop}
use Rattle.map_items.specs.Contents.{centre_cmp, least, live_at}
use Rattle.map_fold.specs.Answers.{inside_all}
use Rattle.map_fold.proofs.thin.winner.Given as goal

abbrev pub invariant-loop-item : goal.invariant-loop-item
invariant-loop-item l = least (centre_cmp l.cube) l.best (inside_all (drop l.item-index l.items) l.cube) ≡ least (centre_cmp l.cube) (live_at l.number l.point) (inside_all l.items l.cube)
