-- What is refused as a point or as a box.
use Rattle.std.specs.Prelude.{ℤ, pos, negsuc, Bool, ◌&&◌, if◌then◌else◌, int_le, Result, Ok, Err}
use Rattle.point_geom.specs.Place.{Place, Bounds}
use Rattle.point_geom.specs.declared.axis.Axis.{Axis}
use Rattle.point_geom.specs.declared.axis.Axis.TheVariants.{X, Y, Z}
use Rattle.point_geom.specs.declared.point.OutOfRange.{OutOfRange}
use Rattle.point_geom.specs.declared.cuboid.Corner.{Corner}
use Rattle.point_geom.specs.declared.cuboid.CuboidError.{CuboidError}
use Rattle.point_geom.specs.declared.cuboid.CuboidError.TheVariants as error

-- the first refusal of two, or what comes after both
abbrev pub next_of : {T E : Type 0} → Result (Unit {0}) E → Result T E → Result T E
next_of (Ok done) rest = rest
next_of (Err e) rest = Err e

-- the test passes, or this is refused
abbrev pub check : {E : Type 0} → Bool → E → Result (Unit {0}) E
check passes e = if passes then Ok tt else Err e

-- a coordinate that lies farther than 2 ^ 40 millimetres from 0 is refused, by its axis and its value
abbrev pub within : Axis → ℤ → Result (Unit {0}) OutOfRange
within axis c = check (int_le (negsuc 1099511627775) c && int_le c (pos 1099511627776)) (record { axis = axis; value = c })

-- the first coordinate outside the limit is named; the intensity is 0
abbrev pub point_of : ℤ → ℤ → ℤ → Result Place OutOfRange
point_of x y z = next_of (within X x) (next_of (within Y y) (next_of (within Z z) (Ok (record { x = x; y = y; z = z; intensity = 0 }))))

-- a corner's number that a caller gives may lie one past the last coordinate
abbrev pub corner_within : Axis → ℤ → Result (Unit {0}) CuboidError
corner_within axis c = check (int_le (negsuc 1099511627775) c && int_le c (pos 1099511627777)) (error.OutOfRange axis c)

-- the first of a corner's numbers that is out of the limits is refused, in the order x, y, z
abbrev pub corner_check : Corner → Result (Unit {0}) CuboidError
corner_check p = next_of (corner_within X p.x) (next_of (corner_within Y p.y) (corner_within Z p.z))

-- the axis is refused where hi is below lo on it
abbrev pub upright : Axis → ℤ → ℤ → Result (Unit {0}) CuboidError
upright axis lo hi = check (int_le lo hi) (error.Inverted axis)

-- the first axis on which hi is below lo is refused, in the order X, Y, Z
abbrev pub upright_check : Corner → Corner → Result (Unit {0}) CuboidError
upright_check lo hi = next_of (upright X lo.x hi.x) (next_of (upright Y lo.y hi.y) (upright Z lo.z hi.z))

-- the first number outside the limit is named, lo's before hi's; else the first axis on which hi is below lo
abbrev pub cuboid_of : Corner → Corner → Result Bounds CuboidError
cuboid_of lo hi =
    next_of (corner_check lo) (next_of (corner_check hi) (next_of (upright_check lo hi) (Ok (record { lo = lo; hi = hi }))))
