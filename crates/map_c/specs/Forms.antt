-- What the structs of C mean.
use Rattle.std.specs.Prelude.{List, map, Any, IsOk}
use Rattle.point_geom.specs.Place as geom
use Rattle.point_geom.specs.Refusals.{cuboid_of, point_of}
use Rattle.point_geom.specs.declared.cuboid.Corner.{Corner}
use Rattle.map_c.specs.declared.handles.forms.Place.{Place}
use Rattle.map_c.specs.declared.handles.forms.Point.{Point}
use Rattle.map_c.specs.declared.handles.forms.Bounds.{Bounds}

-- a place, as a point with the intensity 0
abbrev pub place_at : Place → geom.Place
place_at p = record { x = p.x; y = p.y; z = p.z; intensity = 0 }

-- a point, with its intensity
abbrev pub point_at : Point → geom.Place
point_at p = record { x = p.x; y = p.y; z = p.z; intensity = p.intensity }

-- a place as the corner of a box
abbrev pub corner_at : Place → Corner
corner_at p = record { x = p.x; y = p.y; z = p.z }

-- a half-open box, from its corners
abbrev pub bounds_at : Bounds → geom.Bounds
bounds_at b = record { lo = corner_at b.lo; hi = corner_at b.hi }

-- the points of a list, in order
abbrev pub points_at : List Point → List geom.Place
points_at ps = map point_at ps

-- the boxes of a list, in order
abbrev pub boxes_at : List Bounds → List geom.Bounds
boxes_at bs = map bounds_at bs

-- a point is made of the numbers, which are all in range
abbrev pub IsRightPlace : Place → Type 0
IsRightPlace p = IsOk (point_of p.x p.y p.z)

-- the point's numbers are all in range, whatever its intensity
abbrev pub IsRightPoint : Point → Type 0
IsRightPoint p = IsOk (point_of p.x p.y p.z)

-- a box is made of the corners: their numbers are in range, and none of hi is below that of lo
abbrev pub IsRightBox : Bounds → Type 0
IsRightBox b = IsOk (cuboid_of (corner_at b.lo) (corner_at b.hi))

-- some point of the list is out of range
abbrev pub HasWrongPoint : List Point → Type 0
HasWrongPoint ps = Any (λ p. IsRightPoint p → ⊥) ps

-- of some corners of the list no box is made
abbrev pub HasWrongBox : List Bounds → Type 0
HasWrongBox bs = Any (λ b. IsRightBox b → ⊥) bs
