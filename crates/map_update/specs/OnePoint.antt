-- One point that thins its voxel.
use Rattle.std.specs.Prelude.{◌≡◌, ℕ, false, [], ◌∷◌}
use Rattle.point_geom.specs.Place.{Place}
use Rattle.point_geom.specs.Boxes.{voxel}
use Rattle.map_items.specs.declared.item.Item.{Item}
use Rattle.map_items.specs.Contents.{comes_before, live_at}
use Rattle.map_fold.specs.Answers.{inside_all}
use Rattle.map_items.specs.Fold.{MapAt}

-- One item alone is live in the voxel of p, and p under the next number doesn't come before it.
pub record IsRejected (edge : ℕ) (m : MapAt) (p : Place) : Type 0 where
  pub held : Item
  pub alone : inside_all m.items (voxel edge p) ≡ held ∷ []
  pub behind : comes_before (voxel edge p) (live_at m.next p) held ≡ false
