use Rattle.std.proofs.Common.{rules, arith, ◌∙◌}
use Rattle.std.proofs.lemmas.Int.{to_z-of_z}
use Rattle.point_geom.specs.Place.{IsBelow}
use Rattle.point_geom.proofs.Farthest.{no_farther, far_reached}
use Rattle.point_geom.proofs.extent.Extent.far_dist2.Goals as goal

pub returns-clause-value : goal.returns-clause-value
returns-clause-value c = grind (arith, to_z-of_z)

pub returns-clause-greatest : goal.returns-clause-greatest
returns-clause-greatest c = λ q h. rw (returns-clause-value c) (no_farther c.args.self.now q c.args.p.now h)

pub returns-clause-reached : goal.returns-clause-reached
returns-clause-reached c =
    let below : IsBelow c.args.self.now.lo c.args.self.now.hi = search rules in
    let r = far_reached c.args.self.now c.args.p.now below in
    (r.0, r.1, returns-clause-value c ∙ r.2)
