use Rattle.std.proofs.Common.{◌≡◌, take}
use Rattle.map_fold.specs.Answers.{candidates}
use Rattle.kd_search.specs.Nearest.{put_all}
use Rattle.kd_frozen.specs.Cells.{items_of}
use Rattle.kd_frozen.specs.Close.{IsCloseBound}
use Rattle.kd_frozen.proofs.close.add_leaf.Given as goal

abbrev pub invariant-loop-cell : goal.invariant-loop-cell
invariant-loop-cell l = record {
  bound : IsCloseBound l.query.k l.query.within l.list l.drawn;
  found : l.list ≡ take l.query.k (put_all (candidates (items_of (take l.cell-index l.cells)) l.query.point l.query.within) l.fn.list);
}
