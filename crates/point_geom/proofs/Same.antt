-- When points and boxes are the same.
use Rattle.std.proofs.Common.{◌≡◌, ap}
use Rattle.std.specs.Bool.{Decides}
use Rattle.std.specs.Cmp.Derive.{both_true}
use Rattle.std.proofs.lemmas.Bool.{and_parts}
use Rattle.std.proofs.lemmas.Bool.Decides.{Decides-eqb, Decides-int_eq}
use Rattle.point_geom.specs.Place.{Place, Bounds}
use Rattle.point_geom.specs.Axes.{point_eq}
use Rattle.point_geom.specs.declared.cuboid.Corner.{Corner}
use Rattle.point_geom.specs.contracts.cuboid.CornerPartialEq.TheImpl as corner
use Rattle.point_geom.specs.contracts.cuboid.CuboidPartialEq.TheImpl as cuboid

-- points are the same where `==` says so
pub place_Decides : (a b : Place) → Decides (point_eq a b) (a ≡ b)
place_Decides a b =
    let x = Decides-int_eq a.x b.x in
    let y = Decides-int_eq a.y b.y in
    let z = Decides-int_eq a.z b.z in
    let n = Decides-eqb a.intensity b.intensity in (
      (λ e.
          let p = and_parts _ _ e in
          let q = and_parts _ _ p.1 in
          let r = and_parts _ _ q.1 in
          let f = x.0 p.0 in
          let g = y.0 q.0 in
          let h = z.0 r.0 in
          let k = n.0 r.1 in
          λ i. record { x = f i; y = g i; z = h i; intensity = k i }),
      λ e.
          both_true (x.1 (ap (λ (c : Place). c.x) e))
          (both_true (y.1 (ap (λ (c : Place). c.y) e)) (both_true (z.1 (ap (λ (c : Place). c.z) e)) (n.1 (ap (λ (c : Place). c.intensity) e)))),
    )

corner_Decides : (a b : Corner) → Decides (corner.eq-value.it a b) (a ≡ b)
corner_Decides a b =
    let x = Decides-int_eq a.x b.x in
    let y = Decides-int_eq a.y b.y in
    let z = Decides-int_eq a.z b.z in (
      (λ e.
          let p = and_parts _ _ e in
          let q = and_parts _ _ p.1 in
          let f = x.0 p.0 in
          let g = y.0 q.0 in
          let h = z.0 q.1 in
          λ i. record { x = f i; y = g i; z = h i }),
      λ e. both_true (x.1 (ap (λ (c : Corner). c.x) e)) (both_true (y.1 (ap (λ (c : Corner). c.y) e)) (z.1 (ap (λ (c : Corner). c.z) e))),
    )

-- boxes are the same where `==` says so
pub bounds_Decides : (a b : Bounds) → Decides (cuboid.eq-value.it a b) (a ≡ b)
bounds_Decides a b =
    let lo = corner_Decides a.lo b.lo in
    let hi = corner_Decides a.hi b.hi in (
      (λ e.
          let p = and_parts _ _ e in
          let f = lo.0 p.0 in
          let g = hi.0 p.1 in
          λ i. record { lo = f i; hi = g i }),
      λ e. both_true (lo.1 (ap (λ (c : Bounds). c.lo) e)) (hi.1 (ap (λ (c : Bounds). c.hi) e)),
    )
