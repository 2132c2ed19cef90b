-- The definitions at small numbers.
use Rattle.std.proofs.Common.{◌≡◌, false, ℤ, pos, refl}
use lib.IntN.{negsuc}
use Rattle.point_geom.specs.Place.{Place, Bounds, Span}
use Rattle.point_geom.specs.Corners.{corner_of}
use Rattle.point_geom.specs.Distances.{dist2, centre_dist2}
use Rattle.point_geom.specs.Boxes.{voxel}
use Rattle.point_geom.specs.Extents.{meets}

abbrev at : ℤ → ℤ → ℤ → Place
at x y z = record { x = x; y = y; z = z; intensity = 0 }

farthest_corners : dist2 (at (pos 1099511627776) (pos 1099511627776) (pos 1099511627776)) (at (negsuc 1099511627775) (negsuc 1099511627775) (negsuc 1099511627775)) ≡ 14507109835375550096474112
farthest_corners = refl

below_zero : (voxel 200 (at (negsuc 0) (pos 0) (pos 0))).lo ≡ corner_of (at (negsuc 199) (pos 0) (pos 0))
below_zero = refl

past_the_edge : (voxel 200 (at (negsuc 200) (pos 0) (pos 0))).lo ≡ corner_of (at (negsuc 399) (pos 0) (pos 0))
past_the_edge = refl

nearer_the_centre : centre_dist2 (voxel 200 (at (negsuc 0) (pos 0) (pos 0))) (at (negsuc 0) (pos 0) (pos 0)) ≡ 119204
nearer_the_centre = refl

farther_from_it : centre_dist2 (voxel 200 (at (negsuc 199) (pos 0) (pos 0))) (at (negsuc 199) (pos 0) (pos 0)) ≡ 120000
farther_from_it = refl

-- empty on the axis X alone
abbrev flat : Bounds
flat = record { lo = corner_of (at (pos 5) (pos 0) (pos 0)); hi = corner_of (at (pos 5) (pos 9) (pos 9)) }

abbrev around : Span
around = record { lo = at (pos 0) (pos 0) (pos 0); hi = at (pos 8) (pos 8) (pos 8) }

empty_meets_nothing : meets flat around ≡ false
empty_meets_nothing = refl
