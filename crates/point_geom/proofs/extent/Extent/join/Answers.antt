use Rattle.std.proofs.Common.{◌≡◌, refl, rules, subst, sym}
use Rattle.point_geom.specs.Place.{Span}
use Rattle.point_geom.specs.Extents.{IsPart, joined_span}
use Rattle.point_geom.proofs.Laws.{joined_parts, join_least, joined_below}
use Rattle.point_geom.proofs.extent.Extent.join.Goals as goal

pub invariant_of-result : goal.invariant_of-result
invariant_of-result c =
    rw (c.low_corner.ensures, c.high_corner.ensures) (record {
      below = joined_below (record { lo = c.self.inside.lo; hi = c.self.inside.hi }) (record { lo = c.other.inside.lo; hi = c.other.inside.hi }) c.self.invariant.below;
      lo = refl;
      hi = refl;
    })

pub returns-clause-least : goal.returns-clause-least
returns-clause-least c =
    let a = c.args.self.now in
    let b = c.args.other.now in
    let joined : Span = record { lo = c.low_corner.result; hi = c.high_corner.result } in
    let value : joined ≡ joined_span a b = search rules in
    λ e. subst (λ (z : Span). (IsPart a e × IsPart b e → IsPart z e) × (IsPart z e → IsPart a e × IsPart b e)) (sym value)
    (λ h. join_least a b e h.0 h.1, joined_parts a b e)
