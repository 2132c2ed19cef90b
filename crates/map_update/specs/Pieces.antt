-- Items that are put in one pass while a tree is watched. Cited by private functions alone.
use Rattle.std.specs.Prelude.{ℕ, ◌+◌, ◌<◌, ◌≤◌, max}
use Rattle.kd_tree.specs.Shape.{levels, nodes}
use Rattle.kd_update.specs.Crossing.{HaveRoomAtOnce}
use Rattle.map_update.specs.declared.draft.Draft.{Draft}
use Rattle.kd_tree.specs.declared.limits.TheConstants.{MAX_NODES}
use Rattle.kd_update.specs.declared.limits.TheConstants.{MAX_PASS_LEVELS}

-- n items may be put in one pass: they are fewer than large nodes are, the tree's bounds aren't near, and each log has room.
-- They are at least as many as a pass may add levels.
pub record MayPass (large n : ℕ) (w : Draft) : Type 0 where
  pub many : 22 ≤ n
  pub small : n < max 2 large
  pub short : n < MAX_NODES
  pub low : levels w.tree ≤ MAX_PASS_LEVELS
  pub few : nodes w.tree + n ≤ MAX_NODES
  pub room : HaveRoomAtOnce n w.watches
