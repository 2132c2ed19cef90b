-- Squared distances.
use Rattle.std.specs.Prelude.{ℕ, ◌+◌, ◌*◌, ℤ, ◌+ℤ◌, ◌-ℤ◌, unsigned_abs}
use Rattle.point_geom.specs.Place.{Place, Bounds}

-- the square of the distance between two numbers
abbrev pub gap2 : ℤ → ℤ → ℕ
gap2 a b = unsigned_abs (a -ℤ b) * unsigned_abs (a -ℤ b)

-- the squared distance
abbrev pub dist2 : Place → Place → ℕ
dist2 p q = gap2 p.x q.x + gap2 p.y q.y + gap2 p.z q.z

-- the square of 2 c - (lo + hi)
abbrev pub centre_gap2 : ℤ → ℤ → ℤ → ℕ
centre_gap2 lo c hi = gap2 (c +ℤ c) (lo +ℤ hi)

-- four times the squared distance to the box's centre
abbrev pub centre_dist2 : Bounds → Place → ℕ
centre_dist2 b p = centre_gap2 b.lo.x p.x b.hi.x + centre_gap2 b.lo.y p.y b.hi.y + centre_gap2 b.lo.z p.z b.hi.z
