-- Where items are. Cited by private functions alone.
use Rattle.std.specs.Prelude.{ℕ, ◌≤◌, ◌≤ℤ◌, All, List}
use Rattle.point_geom.specs.Place.{Place, Span}
use Rattle.point_geom.specs.Axes.{on}
use Rattle.point_geom.specs.Distances.{dist2}
use Rattle.point_geom.specs.Extents.{IsIn}
use Rattle.point_geom.specs.declared.axis.Axis.{Axis}
use Rattle.map_items.specs.declared.item.Item.{Item}

-- each item's point is in the closed box
abbrev pub AreIn : Span → List Item → Type 0
AreIn e m = All (λ i. IsIn e i.point) m

-- no item's point is above p on the axis
abbrev pub AreBelow : Axis → Place → List Item → Type 0
AreBelow a p m = All (λ i. on a i.point ≤ℤ on a p) m

-- no item's point is below p on the axis
abbrev pub AreAbove : Axis → Place → List Item → Type 0
AreAbove a p m = All (λ i. on a p ≤ℤ on a i.point) m

-- the square of each item's distance from q is at least d
abbrev pub AreAway : ℕ → Place → List Item → Type 0
AreAway d q m = All (λ i. d ≤ dist2 q i.point) m
