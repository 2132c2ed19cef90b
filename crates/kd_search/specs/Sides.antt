-- The children of a node, told apart by a point. Cited by private functions alone.
use Rattle.std.specs.Prelude.{◌≡◌, ◌≤ℤ◌, ◌⊎◌, List, ◌++◌}
use Rattle.point_geom.specs.Place.{Place}
use Rattle.point_geom.specs.Axes.{on}
use Rattle.point_geom.specs.Distances.{gap2}
use Rattle.map_items.specs.declared.item.Item.{Item}
use Rattle.kd_tree.specs.declared.look.Top.{Top}
use Rattle.kd_search.specs.declared.sides.Sides.{Sides}

-- q isn't above the node's plane, and the left child is the near one
pub record IsLeftNear (t : Top) (q : Place) (s : Sides) : Type 0 where
  pub side : on t.axis q ≤ℤ on t.axis t.item.point
  pub near : s.near.now ≡ t.left.now
  pub far : s.far.now ≡ t.right.now

-- q isn't below the node's plane, and the right child is the near one
pub record IsRightNear (t : Top) (q : Place) (s : Sides) : Type 0 where
  pub side : on t.axis t.item.point ≤ℤ on t.axis q
  pub near : s.near.now ≡ t.right.now
  pub far : s.far.now ≡ t.left.now

-- the children, and how far the plane is from q
pub record AreSidesOf (t : Top) (q : Place) (s : Sides) : Type 0 where
  pub gap : s.gap ≡ gap2 (on t.axis q) (on t.axis t.item.point)
  pub children : IsLeftNear t q s ⊎ IsRightNear t q s

-- the items are those of the one, then of the other, or the other way round
abbrev pub IsEitherWay : List Item → List Item → List Item → Type 0
IsEitherWay m one other = (m ≡ one ++ other) ⊎ (m ≡ other ++ one)
