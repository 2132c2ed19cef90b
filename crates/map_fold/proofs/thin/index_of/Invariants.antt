use Rattle.std.proofs.Common.{◌≡◌, ◌-◌, ◌≤◌, ◌++◌, length, take, drop}
use Rattle.point_geom.specs.Place.{Place}
use Rattle.map_items.specs.Contents.{put}
use Rattle.map_fold.proofs.thin.index_of.Given as goal

abbrev pub invariant-loop-at : goal.invariant-loop-at
invariant-loop-at l = record {
  within : l.at ≤ length l.items;
  put : (p : Place) → take l.at l.items ++ put (drop l.at l.items) l.number p ≡ put l.items l.number p;
}

abbrev pub decreases-loop-at : goal.decreases-loop-at
decreases-loop-at l = length l.items - l.at
