-- What a tree reaches, and what a choice meets and covers of it.
use Rattle.std.specs.Prelude.{Bool, true, ◌&&◌, Option, Some, None}
use Rattle.point_geom.specs.Place.{Bounds, Span}
use Rattle.point_geom.specs.Extents as Extents
use Rattle.point_geom.specs.Extents.{spot}
use Rattle.map_items.specs.Contents.{is_above}
use Rattle.map_items.specs.declared.choice.Choice.{Choice}
use Rattle.kd_tree.specs.Shape.{Head, Shape, leaf, fork}
use Rattle.kd_tree.specs.Walk.{extent, grown}
use Rattle.kd_tree.specs.Numbers.{one_number, widened, range}
use Rattle.kd_mark.specs.declared.reach.Reach.{Reach}

-- the least closed box of a node and those below it, and their least and greatest numbers
abbrev pub reach_of : Head → Shape → Shape → Reach
reach_of h l r = record {
  extent = grown (grown (spot h.item.point) (extent l)) (extent r);
  numbers = widened (widened (one_number h.item.number) (range l)) (range r);
}

-- what a tree reaches; an empty one reaches nothing
abbrev pub reach : Shape → Option Reach
reach leaf = None
reach (fork h l r) = Some (reach_of h l r)

-- a point of the closed box is in the half-open one, or no half-open one is given
abbrev pub meets_box : Option Bounds → Span → Bool
meets_box None e = true
meets_box (Some c) e = Extents.meets c e

-- every point of the closed box is in the half-open one, or no half-open one is given
abbrev pub covers_box : Option Bounds → Span → Bool
covers_box None e = true
covers_box (Some c) e = Extents.covers c e

-- The choice meets what is reached: its box, if there is one, does, and the least number is below its bound, if there is one. Else
-- it misses it.
abbrev pub meets : Choice → Reach → Bool
meets c e = is_above c.below e.numbers.least && meets_box c.within e.extent

-- The choice covers what is reached: its box, if there is one, does, and the greatest number is below its bound, if there is one.
abbrev pub covers : Choice → Reach → Bool
covers c e = is_above c.below e.numbers.greatest && covers_box c.within e.extent
