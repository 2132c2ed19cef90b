-- How far a point is from what lies beyond a plane.
use Rattle.std.proofs.Common.{ℕ, ◌+◌, ◌≤◌, ℤ, ◌≤ℤ◌, ◌-ℤ◌, arith}
use Rattle.std.specs.Prelude.{List, unsigned_abs}
use Rattle.std.proofs.Math.Nat.{mul-le-mul}
use Rattle.std.proofs.lemmas.Int.{ints}
use Rattle.std.proofs.lemmas.List.Elements.{All-weaker}
use Rattle.point_geom.specs.Place.{Place}
use Rattle.point_geom.specs.Axes.{on}
use Rattle.point_geom.specs.Distances.{gap2, dist2}
use Rattle.point_geom.specs.declared.axis.Axis.{Axis}
use Rattle.point_geom.specs.declared.axis.Axis.TheVariants.{X, Y, Z}
use Rattle.map_items.specs.declared.item.Item.{Item}
use Rattle.kd_search.specs.Points.{AreBelow, AreAbove, AreAway}

first_part : (x y z : ℕ) → x ≤ x + y + z
first_part x y z = omega arith

second_part : (x y z : ℕ) → y ≤ x + y + z
second_part x y z = omega arith

third_part : (x y z : ℕ) → z ≤ x + y + z
third_part x y z = omega arith

-- no point is nearer than on one axis
pub axis_gap : (a : Axis) (q p : Place) → gap2 (on a q) (on a p) ≤ dist2 q p
axis_gap X q p = first_part (gap2 q.x p.x) (gap2 q.y p.y) (gap2 q.z p.z)
axis_gap Y q p = second_part (gap2 q.x p.x) (gap2 q.y p.y) (gap2 q.z p.z)
axis_gap Z q p = third_part (gap2 q.x p.x) (gap2 q.y p.y) (gap2 q.z p.z)

≤-trans : (a b c : ℕ) → a ≤ b → b ≤ c → a ≤ c
≤-trans a b c h k = omega arith

abs_below : (q p c : ℤ) → c ≤ℤ p → p ≤ℤ q → unsigned_abs (q -ℤ p) ≤ unsigned_abs (q -ℤ c)
abs_below q p c h k = omega (arith, ints)

abs_above : (q p c : ℤ) → q ≤ℤ p → p ≤ℤ c → unsigned_abs (q -ℤ p) ≤ unsigned_abs (q -ℤ c)
abs_above q p c h k = omega (arith, ints)

gap2_below : (q p c : ℤ) → c ≤ℤ p → p ≤ℤ q → gap2 q p ≤ gap2 q c
gap2_below q p c h k =
    let near = abs_below q p c h k in mul-le-mul near near

gap2_above : (q p c : ℤ) → q ≤ℤ p → p ≤ℤ c → gap2 q p ≤ gap2 q c
gap2_above q p c h k =
    let near = abs_above q p c h k in mul-le-mul near near

-- what lies below the plane of p is at least as far as the plane from what doesn't
pub away_below : (a : Axis) (q p : Place) (m : List Item) → on a p ≤ℤ on a q → AreBelow a p m → AreAway (gap2 (on a q) (on a p)) q m
away_below a q p m h k =
    All-weaker (λ (i : Item). on a i.point ≤ℤ on a p) (λ (i : Item). gap2 (on a q) (on a p) ≤ dist2 q i.point)
    (λ i below. ≤-trans _ (gap2 (on a q) (on a i.point)) _ (gap2_below (on a q) (on a p) (on a i.point) below h) (axis_gap a q i.point)) m k

-- and what lies above it
pub away_above : (a : Axis) (q p : Place) (m : List Item) → on a q ≤ℤ on a p → AreAbove a p m → AreAway (gap2 (on a q) (on a p)) q m
away_above a q p m h k =
    All-weaker (λ (i : Item). on a p ≤ℤ on a i.point) (λ (i : Item). gap2 (on a q) (on a p) ≤ dist2 q i.point)
    (λ i above. ≤-trans _ (gap2 (on a q) (on a i.point)) _ (gap2_above (on a q) (on a p) (on a i.point) h above) (axis_gap a q i.point)) m k
