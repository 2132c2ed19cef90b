-- Generated points and boxes are in their limits.
use Rattle.std.proofs.Common.{◌≡◌, ℕ, ◌*◌, ◌<◌, ◌≤◌, ℤ, pos, true, Ok, refl, arith, to_z, of_z, w64}
use lib.IntN.{negsuc}
use Rattle.std.specs.Prelude.{◌-ℤ◌, ◌*ℤ◌, int_le}
use Rattle.std.proofs.lemmas.Int.{ints}
use Rattle.point_geom.specs.Place.{Bounds, IsUpright}
use Rattle.point_geom.specs.declared.cuboid.Corner.{Corner}
use Rattle.point_geom.specs.Refusals.{within, point_of, corner_within, corner_check, upright_check, cuboid_of}
use Rattle.point_geom.specs.declared.axis.Axis.{Axis}
use Rattle.scan_log.specs.Scripts.{IsLogCoordinate, IsBoxNumber, IsBoxCorner, IsCallerBox}
use Rattle.scan_log.specs.declared.format.Format.TheVariants.{One}
use Rattle.mapper_base.specs.Generated.{box_behind}

coordinate_fits : (axis : Axis) (c : ℤ) → IsLogCoordinate One c → within axis c ≡ Ok tt
coordinate_fits axis c h =
    let low : int_le (negsuc 1099511627775) c ≡ true = grind (arith, ints, h.0) in
    let high : int_le c (pos 1099511627776) ≡ true = grind (arith, ints, h.1) in
    rw (low, high) refl

-- a point in its limits is not refused
pub point_fits : (x y z : ℤ) → IsLogCoordinate One x → IsLogCoordinate One y → IsLogCoordinate One z → point_of x y z ≡ Ok (record { x = x; y = y; z = z; intensity = 0 })
point_fits x y z p q r = rw (coordinate_fits _ x p, coordinate_fits _ y q, coordinate_fits _ z r) refl

number_fits : (axis : Axis) (c : ℤ) → IsBoxNumber One c → corner_within axis c ≡ Ok tt
number_fits axis c h =
    let low : int_le (negsuc 1099511627775) c ≡ true = grind (arith, ints, h.0) in
    let high : int_le c (pos 1099511627777) ≡ true = grind (arith, ints, h.1) in
    rw (low, high) refl

corner_fits : (p : Corner) → IsBoxCorner One p → corner_check p ≡ Ok tt
corner_fits p h = rw (number_fits _ p.x h.0, number_fits _ p.y h.1, number_fits _ p.z h.2) refl

upright_fits : (lo hi : Corner) → IsUpright lo hi → upright_check lo hi ≡ Ok tt
upright_fits lo hi h =
    let x : int_le lo.x hi.x ≡ true = grind (arith, ints, h.x) in
    let y : int_le lo.y hi.y ≡ true = grind (arith, ints, h.y) in
    let z : int_le lo.z hi.z ≡ true = grind (arith, ints, h.z) in
    rw (x, y, z) refl

-- a box in its limits is not refused
pub box_fits : (b : Bounds) → IsCallerBox One b → cuboid_of b.lo b.hi ≡ Ok b
box_fits b h = rw (corner_fits b.lo h.lo, corner_fits b.hi h.hi, upright_fits b.lo b.hi h.below) refl

-- what lies box_behind is a box of a caller
pub behind_good : (i : ℕ) → i < 200 → IsCallerBox One (box_behind i)
behind_good i few = record {
  lo = ((grind (arith, ints, few), grind (arith, ints, few)), (omega arith, omega arith), (omega arith, omega arith));
  hi = ((grind (arith, ints, few), grind (arith, ints, few)), (omega arith, omega arith), (omega arith, omega arith));
  below = record { x = grind (arith, ints, few); y = omega arith; z = omega arith };
}

-- a number below a scan's place, as 64 bits have it
pub far_side : (i n : ℕ) → i < 200 → n ≤ 60000 → to_z w64 (of_z w64 (to_z w64 (of_z w64 (pos 1000 *ℤ to_z w64 i)) -ℤ pos n)) ≡ pos (1000 * i) -ℤ pos n
far_side i n few small = omega (arith, ints, few, small)

-- and a number below another
pub less_than : (n k : ℕ) → n < 1000000 → k ≤ 60000 → to_z w64 (of_z w64 (to_z w64 n -ℤ pos k)) ≡ pos n -ℤ pos k
less_than n k few small = omega (arith, ints, few, small)
