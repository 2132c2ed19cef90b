-- The settings of a map.
use Rattle.std.specs.Prelude.{ℕ, ◌≤◌}
use Rattle.point_geom.specs.declared.cuboid.TheConstants.{MAX_EDGE}
use Rattle.map_items.specs.declared.limits.TheConstants.{MAX_LARGE, MIN_LARGE}

-- the edge of the grid's cubes, and from how many nodes on a subtree is rebuilt while updates go on
pub record Sizes : Type 0 where
  pub voxel : ℕ
  pub large : ℕ

-- the edge is from 1 to 1,000,000 millimetres, and a large subtree has at least `large` nodes, from 16 to 1,000,000
pub record AreSizes (s : Sizes) : Type 0 where
  pub voxel_from : 1 ≤ s.voxel
  pub voxel_to : s.voxel ≤ MAX_EDGE
  pub large_from : MIN_LARGE ≤ s.large
  pub large_to : s.large ≤ MAX_LARGE
