-- Closed boxes, and what half-open ones share with them.
use Rattle.std.specs.Prelude.{ℕ, ◌+◌, max, ◌≡◌, ℤ, Bool, true, ◌&&◌, int_le, int_lt}
use Rattle.std.specs.Int.{int_min, int_max}
use Rattle.point_geom.specs.Place.{Place, Bounds, Span, IsBelow, bare}
use Rattle.point_geom.specs.Distances.{gap2, dist2}
use Rattle.point_geom.specs.Boxes.{holds}

-- the point is in the closed box
pub record IsIn (e : Span) (p : Place) : Type 0 where
  pub from : IsBelow e.lo p
  pub to : IsBelow p e.hi

-- every point of the first is in the second
pub record IsPart (a b : Span) : Type 0 where
  pub lo : IsBelow b.lo a.lo
  pub hi : IsBelow a.hi b.hi

-- the closed box of one point
abbrev pub spot : Place → Span
spot p = record { lo = bare p; hi = bare p }

-- on each axis the lesser of two points' coordinates; the intensity is 0
abbrev pub low_corner : Place → Place → Place
low_corner p q = record { x = int_min p.x q.x; y = int_min p.y q.y; z = int_min p.z q.z; intensity = 0 }

-- on each axis the greater of them; the intensity is 0
abbrev pub high_corner : Place → Place → Place
high_corner p q = record { x = int_max p.x q.x; y = int_max p.y q.y; z = int_max p.z q.z; intensity = 0 }

-- the least closed box that covers both
abbrev pub joined_span : Span → Span → Span
joined_span a b = record { lo = low_corner a.lo b.lo; hi = high_corner a.hi b.hi }

-- both corners of the closed box are in the half-open one, so every point is
abbrev pub covers : Bounds → Span → Bool
covers c e = holds c e.lo && holds c e.hi

-- every point of the closed box is in the half-open one
abbrev pub HoldsAll : Bounds → Span → Type 0
HoldsAll c e = (p : Place) → IsIn e p → holds c p ≡ true

-- some point of the closed box is in the half-open one
pub record HoldsSome (c : Bounds) (e : Span) : Type 0 where
  pub point : Place
  pub inside : IsIn e point
  pub held : holds c point ≡ true

-- some number from low to high is at least lo and below hi
abbrev pub is_crossed : ℤ → ℤ → ℤ → ℤ → Bool
is_crossed lo hi low high = int_le lo high && int_lt low hi && int_lt lo hi

-- the boxes cross on each axis, so they share a point
abbrev pub meets : Bounds → Span → Bool
meets c e =
    is_crossed c.lo.x c.hi.x e.lo.x e.hi.x && is_crossed c.lo.y c.hi.y e.lo.y e.hi.y && is_crossed c.lo.z c.hi.z e.lo.z e.hi.z

-- the number from low to high that is nearest to c
abbrev pub clamped : ℤ → ℤ → ℤ → ℤ
clamped low high c = int_max low (int_min c high)

-- the point of the closed box that is nearest to p
abbrev pub nearest_in : Span → Place → Place
nearest_in e p = record { x = clamped e.lo.x e.hi.x p.x; y = clamped e.lo.y e.hi.y p.y; z = clamped e.lo.z e.hi.z p.z; intensity = 0 }

-- the least squared distance from p to a point of the closed box
abbrev pub span_dist2 : Span → Place → ℕ
span_dist2 e p = dist2 p (nearest_in e p)

-- the greatest squared distance from p to a point of the closed box
abbrev pub span_far2 : Span → Place → ℕ
span_far2 e p =
    max (gap2 p.x e.lo.x) (gap2 p.x e.hi.x) + max (gap2 p.y e.lo.y) (gap2 p.y e.hi.y) + max (gap2 p.z e.lo.z) (gap2 p.z e.hi.z)
