-- Points and boxes as numbers, and the limits of their coordinates.
use Rattle.std.specs.Prelude.{◌≡◌, ℕ, ◌<◌, ℤ, pos, negsuc, ◌≤ℤ◌}
use Rattle.point_geom.specs.declared.cuboid.Corner.{Corner}

-- a point, by its coordinates and its intensity
pub record Place : Type 0 where
  pub x : ℤ
  pub y : ℤ
  pub z : ℤ
  pub intensity : ℕ

-- a half-open box: lo is in it, hi is not
pub record Bounds : Type 0 where
  pub lo : Corner
  pub hi : Corner

-- a closed box: both corners are in it
pub record Span : Type 0 where
  pub lo : Place
  pub hi : Place

-- a coordinate of a point lies within 2 ^ 40 millimetres of 0
abbrev pub IsCoordinate : ℤ → Type 0
IsCoordinate c = (negsuc 1099511627775 ≤ℤ c) × (c ≤ℤ pos 1099511627776)

-- each coordinate of a point lies within 2 ^ 40 millimetres of 0, and its intensity is at most 65,535
abbrev pub IsPlace : Place → Type 0
IsPlace p = IsCoordinate p.x × IsCoordinate p.y × IsCoordinate p.z × (p.intensity < 65536)

-- the second point is where the first is, whatever its intensity
pub record IsAt (p q : Place) : Type 0 where
  pub x : q.x ≡ p.x
  pub y : q.y ≡ p.y
  pub z : q.z ≡ p.z

-- the point with the intensity 0
abbrev pub bare : Place → Place
bare p = record p { intensity = 0 }

-- a number of a box's corner may lie a kilometre farther out
abbrev pub IsCornerNumber : ℤ → Type 0
IsCornerNumber c = (negsuc 1099512627775 ≤ℤ c) × (c ≤ℤ pos 1099512627776)

-- each number of a box's corner lies at most a kilometre farther out than a coordinate may
abbrev pub IsCorner : Corner → Type 0
IsCorner p = IsCornerNumber p.x × IsCornerNumber p.y × IsCornerNumber p.z

-- a number of a cube's lower corner: the upper one is in the limits too
abbrev pub IsLowNumber : ℤ → Type 0
IsLowNumber c = (negsuc 1099512627775 ≤ℤ c) × (c ≤ℤ pos 1099511627776)

-- each number of a cube's lower corner is in its limits, so that the upper corner's are in theirs
abbrev pub IsLowCorner : Corner → Type 0
IsLowCorner p = IsLowNumber p.x × IsLowNumber p.y × IsLowNumber p.z

-- no coordinate of the first is above the second's
pub record IsBelow (lo hi : Place) : Type 0 where
  pub x : lo.x ≤ℤ hi.x
  pub y : lo.y ≤ℤ hi.y
  pub z : lo.z ≤ℤ hi.z

-- no number of the first corner is above the second's
pub record IsUpright (lo hi : Corner) : Type 0 where
  pub x : lo.x ≤ℤ hi.x
  pub y : lo.y ≤ℤ hi.y
  pub z : lo.z ≤ℤ hi.z

-- both corners of a box are in their limits, and no number of lo is above hi's
pub record IsBounds (b : Bounds) : Type 0 where
  pub lo : IsCorner b.lo
  pub hi : IsCorner b.hi
  pub below : IsUpright b.lo b.hi

-- the corners of a closed box have no intensity
pub record IsSpan (e : Span) : Type 0 where
  pub below : IsBelow e.lo e.hi
  pub lo : e.lo.intensity ≡ 0
  pub hi : e.hi.intensity ≡ 0
