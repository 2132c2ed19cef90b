-- One point that thins its voxel in a state.
use Rattle.point_geom.specs.Place.{Place}
use Rattle.map_fold.specs.Thinned.{IsThinned}
use Rattle.kd_tree.specs.Shape.{Shape}
use Rattle.kd_tree.specs.Contents.{contents}
use Rattle.kd_tree.specs.Maps.{map_of}
use Rattle.map_update.specs.OnePoint.{IsRejected}
use Rattle.rebuild_core.specs.Lawful.{StateAt}

-- the point p is rejected by a state
abbrev pub IsRejectedFrom : StateAt → Place → Type 0
IsRejectedFrom s p = IsRejected s.settings.voxel (map_of s.tree s.next) p

-- the tree holds what the state held, with the point p thinned
abbrev pub IsThinnedFrom : StateAt → Place → Shape → Type 0
IsThinnedFrom s p t = IsThinned s.settings.voxel (contents s.tree) s.next p (contents t)
