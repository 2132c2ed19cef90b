-- Points and boxes are made of numbers in their limits.
use Rattle.std.proofs.Common.{◌≡◌, ℕ, List, ℤ, pos, Bool, true, false, Result, Ok, Err, refl, sym, ap, arith}
use lib.IntN.{negsuc}
use Rattle.std.specs.Prelude.{◌&&◌, int_le}
use Rattle.std.proofs.lemmas.Int.{ints}
use Rattle.point_geom.specs.Place.{Place, Bounds}
use Rattle.point_geom.specs.Refusals.{next_of, check, within, point_of, corner_within, corner_check, cuboid_of}
use Rattle.point_geom.specs.declared.axis.Axis.{Axis}
use Rattle.point_geom.specs.declared.point.OutOfRange.{OutOfRange}
use Rattle.point_geom.specs.declared.cuboid.Corner.{Corner}
use Rattle.point_geom.specs.declared.cuboid.CuboidError.{CuboidError}
use Rattle.scan_log.specs.declared.format.Format.{Format}
use Rattle.scan_log.specs.declared.format.Format.TheVariants.{One, Two}
use Rattle.scan_log.specs.declared.fault.LogCause.{LogCause}
use Rattle.scan_log.specs.declared.fault.LogCause.TheVariants.{InvertedBox}
use Rattle.scan_log.specs.declared.fault.LogCause.TheVariants as causes
use Rattle.scan_log.specs.Steps.{given}
use Rattle.scan_log.specs.Numbers.{coordinate}
use Rattle.scan_log.specs.Reading.{place_of, corner_of, is_upright, box_of}
use Rattle.scan_log.specs.Scripts.{IsBoxNumber, IsBoxCorner, IsLogCoordinate}

-- a coordinate is not refused
within_fits : (format : Format) (axis : Axis) (c : ℤ) → IsLogCoordinate format c → within axis c ≡ Ok tt
within_fits One axis c h =
    let low : int_le (negsuc 1099511627775) c ≡ true = grind (arith, ints, h.0) in
    let high : int_le c (pos 1099511627776) ≡ true = grind (arith, ints, h.1) in
    rw (low, high) refl
within_fits Two axis c h =
    let low : int_le (negsuc 1099511627775) c ≡ true = grind (arith, ints, h.0) in
    let high : int_le c (pos 1099511627776) ≡ true = grind (arith, ints, h.1) in
    rw (low, high) refl

pub point_fits : (format : Format) (x y z : ℤ) → IsLogCoordinate format x → IsLogCoordinate format y → IsLogCoordinate format z → point_of x y z ≡ Ok (record { x = x; y = y; z = z; intensity = 0 })
point_fits format x y z p q r = rw (within_fits format _ x p, within_fits format _ y q, within_fits format _ z r) refl

-- each refusal of a point is one fault
abbrev pub far_off : Result Place OutOfRange → Result Place LogCause
far_off (Ok p) = Ok p
far_off (Err e) = Err causes.OutOfRange

-- the point of three coordinates that were read
pub placed : (format : Format) (f g h : List ℕ) (x y z : ℤ) → Ok x ≡ coordinate format f → Ok y ≡ coordinate format g → Ok z ≡ coordinate format h
    → IsLogCoordinate format x → IsLogCoordinate format y → IsLogCoordinate format z → place_of format f g h ≡ far_off (point_of x y z)
unfolding place_of
placed format f g h x y z a b c p q r = rw (← a, ← b, ← c) (sym (ap far_off (point_fits format x y z p q r)))

corner_fits : (format : Format) (axis : Axis) (c : ℤ) → IsBoxNumber format c → corner_within axis c ≡ Ok tt
corner_fits One axis c h =
    let low : int_le (negsuc 1099511627775) c ≡ true = grind (arith, ints, h.0) in
    let high : int_le c (pos 1099511627777) ≡ true = grind (arith, ints, h.1) in
    rw (low, high) refl
corner_fits Two axis c h =
    let low : int_le (negsuc 1099511627775) c ≡ true = grind (arith, ints, h.0) in
    let high : int_le c (pos 1099511627777) ≡ true = grind (arith, ints, h.1) in
    rw (low, high) refl

corners_fit : (format : Format) (p : Corner) → IsBoxCorner format p → corner_check p ≡ Ok tt
corners_fit format p h = rw (corner_fits format _ p.x h.0, corner_fits format _ p.y h.1, corner_fits format _ p.z h.2) refl

-- each refusal of a box is one fault
abbrev pub refused : Result Bounds CuboidError → Result Bounds LogCause
refused (Ok box) = Ok box
refused (Err e) = Err InvertedBox

-- of two corners in their limits a box is refused exactly where they are inverted
refused-cuboid_of : (format : Format) (lo hi : Corner) → IsBoxCorner format lo → IsBoxCorner format hi
    → refused (cuboid_of lo hi)
    ≡ given (is_upright lo hi) InvertedBox (Ok (record { lo = lo; hi = hi }))
refused-cuboid_of format lo hi p q =
    rw (corners_fit format lo p, corners_fit format hi q)
    (tests _ _ _ (int_le lo.x hi.x) (int_le lo.y hi.y) (int_le lo.z hi.z) (record { lo = lo; hi = hi }))
  where
    tests : (d e f : CuboidError) (a b c : Bool) (box : Bounds)
        → refused (next_of (next_of (check a d) (next_of (check b e) (check c f))) (Ok box)) ≡ given (a && b && c) InvertedBox (Ok box)
    tests d e f true true true box = refl
    tests d e f true true false box = refl
    tests d e f true false c box = refl
    tests d e f false b c box = refl

-- the box of two corners that were read
pub boxed : (format : Format) (a b c d e f : List ℕ) (lo hi : Corner) → Ok lo ≡ corner_of format a b c → Ok hi ≡ corner_of format d e f
    → IsBoxCorner format lo → IsBoxCorner format hi
    → box_of format a b c d e f ≡ refused (cuboid_of lo hi)
unfolding box_of
boxed format a b c d e f lo hi first second p q = rw (← first, ← second) (sym (refused-cuboid_of format lo hi p q))
