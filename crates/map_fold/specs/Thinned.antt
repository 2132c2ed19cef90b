-- What downsampling does to a voxel.
use Rattle.std.specs.Prelude.{◌≡◌, ℕ, false, not, List, [], ◌∷◌, filter}
use Rattle.point_geom.specs.Place.{Place, Bounds}
use Rattle.point_geom.specs.Boxes.{voxel}
use Rattle.node_labels.specs.Labels.{is_suspended}
use Rattle.map_items.specs.declared.item.Item.{Item}
use Rattle.map_items.specs.Contents.{comes_before, in_box, live_at, Member}
use Rattle.map_fold.specs.Answers.{inside_all}

-- nothing of the list comes before the item
abbrev pub NoneBefore : Bounds → Item → List Item → Type 0
NoneBefore c w m = (i : Item) → Member i m → comes_before c i w ≡ false

-- the new item, and those that are live in its voxel
abbrev pub rivals : ℕ → List Item → ℕ → Place → List Item
rivals edge m n p = live_at n p ∷ inside_all m (voxel edge p)

-- the items that are not in the box, live or not
abbrev pub outside : List Item → Bounds → List Item
outside m c = filter (λ i. not (in_box c i)) m

-- the items that are suspended, in their order
abbrev pub suspended_items : List Item → List Item
suspended_items m = filter (λ i. is_suspended i.label) m

-- The point p was thinned under the number n, on a grid of this edge: the rival nearest to the voxel's centre alone is
-- live there, and nothing else has changed.
pub record IsThinned (edge : ℕ) (m : List Item) (n : ℕ) (p : Place) (after : List Item) : Type 0 where
  pub winner : Item
  pub rival : Member winner (rivals edge m n p)
  pub first : NoneBefore (voxel edge p) winner (rivals edge m n p)
  pub alone : inside_all after (voxel edge p) ≡ winner ∷ []
  pub others : outside after (voxel edge p) ≡ outside m (voxel edge p)
  pub suspended : suspended_items after ≡ suspended_items m
