-- Half-open boxes.
use Rattle.std.specs.Prelude.{ℕ, ◌≡◌, ℤ, pos, ◌+ℤ◌, ◌-ℤ◌, ◌*ℤ◌, Bool, ◌&&◌, int_le, int_lt}
use Rattle.std.specs.Int.{int_rem_euclid}
use Rattle.point_geom.specs.Place.{Place, Bounds}
use Rattle.point_geom.specs.Corners.{corner_of}
use Rattle.point_geom.specs.declared.cuboid.Corner.{Corner}

-- lo <= c < hi
abbrev pub is_between : ℤ → ℤ → ℤ → Bool
is_between lo c hi = int_le lo c && int_lt c hi

-- the point is in the box
abbrev pub holds : Bounds → Place → Bool
holds b p = is_between b.lo.x p.x b.hi.x && is_between b.lo.y p.y b.hi.y && is_between b.lo.z p.z b.hi.z

-- a corner, moved by as much on each axis
abbrev pub moved : ℤ → Corner → Corner
moved by p = record { x = p.x +ℤ by; y = p.y +ℤ by; z = p.z +ℤ by }

-- the box of these edges above a lower corner
abbrev pub cube : ℕ → Corner → Bounds
cube length lo = record { lo = lo; hi = moved (pos length) lo }

-- the box that holds what is where a point is
abbrev pub unit_box : Place → Bounds
unit_box p = cube 1 (corner_of p)

-- the greatest multiple of the length that is at most c
abbrev pub cell_start : ℕ → ℤ → ℤ
cell_start length c = c -ℤ int_rem_euclid c (pos length)

-- the lower corner of the grid cube of this length, in millimetres, that the point is in
abbrev pub cell_corner : ℕ → Place → Corner
cell_corner length p = record { x = cell_start length p.x; y = cell_start length p.y; z = cell_start length p.z }

-- the grid cube of this length that the point is in
abbrev pub voxel : ℕ → Place → Bounds
voxel length p = cube length (cell_corner length p)

-- a whole multiple of the length
abbrev pub IsMultiple : ℕ → ℤ → Type 0
IsMultiple length c = (k : ℤ) × (c ≡ k *ℤ pos length)

-- a point where cubes of the grid touch
pub record IsOnGrid (length : ℕ) (p : Corner) : Type 0 where
  pub x : IsMultiple length p.x
  pub y : IsMultiple length p.y
  pub z : IsMultiple length p.z
