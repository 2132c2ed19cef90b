-- Axes, and the order of points.
use Rattle.std.specs.Prelude.{ℤ, Bool, ◌==◌}
use Rattle.std.specs.declared.cmp.Ordering.{Ordering}
use Rattle.std.specs.Ordering.{int_cmp, int_eq, nat_cmp, ordering_then, then_cmp, eq_of_both, on as on_field}
use Rattle.point_geom.specs.Place.{Place}
use Rattle.point_geom.specs.declared.axis.Axis.{Axis}
use Rattle.point_geom.specs.declared.axis.Axis.TheVariants.{X, Y, Z}

-- X, Y, Z, X
abbrev pub next_axis : Axis → Axis
next_axis X = Y
next_axis Y = Z
next_axis Z = X

-- the coordinate on an axis
abbrev pub on : Axis → Place → ℤ
on X p = p.x
on Y p = p.y
on Z p = p.z

-- by x, then by y, then by z, whatever the intensity
abbrev pub place_cmp : Place → Place → Ordering
place_cmp p q = ordering_then (int_cmp p.x q.x) (ordering_then (int_cmp p.y q.y) (int_cmp p.z q.z))

-- by x, then by y, then by z, then by the intensity
abbrev pub point_cmp : Place → Place → Ordering
point_cmp = then_cmp (on_field (λ p. p.x) int_cmp) (then_cmp (on_field (λ p. p.y) int_cmp) (then_cmp (on_field (λ p. p.z) int_cmp) (on_field (λ p. p.intensity) nat_cmp)))

-- at one place, with one intensity
abbrev pub point_eq : Place → Place → Bool
point_eq = eq_of_both (on_field (λ p. p.x) int_eq) (eq_of_both (on_field (λ p. p.y) int_eq) (eq_of_both (on_field (λ p. p.z) int_eq) (on_field (λ p. p.intensity) ◌==◌)))
