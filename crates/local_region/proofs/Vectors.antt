-- The definitions at small numbers.
use Rattle.std.proofs.Common.{◌≡◌, ℤ, pos, [], ◌∷◌, refl}
use Rattle.std.specs.Prelude.{Ok, Err}
use lib.IntN.{negsuc}
use Rattle.point_geom.specs.Place.{Place, Bounds}
use Rattle.point_geom.specs.declared.cuboid.Corner.{Corner}
use Rattle.local_region.specs.declared.rules.RulesFault.TheVariants.{Side, Ball, Step}
use Rattle.local_region.specs.Rules.{Rules, rules_of}
use Rattle.local_region.specs.Regions.{RegionAt, begun}
use Rattle.local_region.specs.Moves.{after}
use Rattle.local_region.specs.Removed.{removed}

abbrev at : ℤ → ℤ → ℤ → Place
at x y z = record { x = x; y = y; z = z; intensity = 0 }

abbrev corner : ℤ → ℤ → ℤ → Corner
corner x y z = record { x = x; y = y; z = z }

abbrev narrow : Rules
narrow = record { side = 100; ball = 20; step = 30 }

abbrev round_zero : RegionAt
round_zero = begun narrow (at (pos 0) (pos 0) (pos 0))

begins_at_minus_fifty : round_zero.lo ≡ corner (negsuc 49) (negsuc 49) (negsuc 49)
begins_at_minus_fifty = refl

moves_on_x_alone : (after (at (pos 30) (pos 0) (pos 0)) round_zero).lo ≡ corner (negsuc 19) (negsuc 49) (negsuc 49)
moves_on_x_alone = refl

slab : Bounds
slab = record { lo = corner (negsuc 49) (negsuc 49) (negsuc 49); hi = corner (negsuc 19) (pos 50) (pos 50) }

leaves_a_slab : removed round_zero (after (at (pos 30) (pos 0) (pos 0)) round_zero) ≡ slab ∷ []
unfolding slab
leaves_a_slab = refl

ball_of_both_faces : rules_of 100 50 30 ≡ Err Ball
ball_of_both_faces = refl

step_past_the_side : rules_of 100 20 101 ≡ Err Step
step_past_the_side = refl

side_of_one : rules_of 1 50 0 ≡ Err Side
side_of_one = refl

lawful : rules_of 100 20 30 ≡ Ok narrow
lawful = refl
