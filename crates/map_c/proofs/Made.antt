-- What is made of numbers is what they spell.
use Rattle.std.proofs.Common.{◌≡◌, ℤ, Result, Ok, Err, IfOk, refl, subst, sym, ◌∙◌}
use Rattle.point_geom.specs.Place.{Place, Bounds}
use Rattle.point_geom.specs.Refusals.{next_of, corner_check, cuboid_of, point_of, upright_check, within}
use Rattle.point_geom.specs.declared.axis.Axis.TheVariants.{X, Y, Z}
use Rattle.point_geom.specs.declared.cuboid.Corner.{Corner}
use Rattle.point_geom.specs.declared.cuboid.CuboidError.{CuboidError}
use Rattle.point_geom.specs.declared.point.OutOfRange.{OutOfRange}

after : {T E : Type 0} (P : T → Type 0) (r : Result (Unit {0}) E) (s : Result T E) → IfOk s P → IfOk (next_of r s) P
after P (Ok done) s h = h
after P (Err e) s h = tt

point_made : (x y z : ℤ) → IfOk (point_of x y z) (λ p. p ≡ record { x = x; y = y; z = z; intensity = 0 })
point_made x y z =
    let P : Place → Type 0 = λ p. p ≡ record { x = x; y = y; z = z; intensity = 0 } in
    after P (within X x) _ (after P (within Y y) _ (after P (within Z z) (Ok (record { x = x; y = y; z = z; intensity = 0 })) refl))

box_made : (lo hi : Corner) → IfOk (cuboid_of lo hi) (λ b. b ≡ record { lo = lo; hi = hi })
box_made lo hi =
    let P : Bounds → Type 0 = λ b. b ≡ record { lo = lo; hi = hi } in
    after P (corner_check lo) _ (after P (corner_check hi) _ (after P (upright_check lo hi) (Ok (record { lo = lo; hi = hi })) refl))

-- the point of three numbers
pub point_is : (x y z : ℤ) (r : Result Place OutOfRange) (p : Place) → r ≡ point_of x y z → r ≡ Ok p → p ≡ record { x = x; y = y; z = z; intensity = 0 }
point_is x y z r p e f = subst (λ s. IfOk s (λ q. q ≡ record { x = x; y = y; z = z; intensity = 0 })) (sym e ∙ f) (point_made x y z)

-- the box of two corners
pub box_is : (lo hi : Corner) (r : Result Bounds CuboidError) (b : Bounds) → r ≡ cuboid_of lo hi → r ≡ Ok b → b ≡ record { lo = lo; hi = hi }
box_is lo hi r b e f = subst (λ s. IfOk s (λ q. q ≡ record { lo = lo; hi = hi })) (sym e ∙ f) (box_made lo hi)
