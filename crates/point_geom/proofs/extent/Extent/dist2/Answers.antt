use Rattle.std.proofs.Common.{rules, arith}
use Rattle.std.proofs.lemmas.Int.{to_z-of_z}
use Rattle.point_geom.specs.Place.{IsBelow}
use Rattle.point_geom.specs.Extents.{nearest_in}
use Rattle.point_geom.proofs.Laws.{reach, nearest_is_in}
use Rattle.point_geom.proofs.extent.Extent.dist2.Goals as goal

pub returns-clause-value : goal.returns-clause-value
returns-clause-value c = grind (arith, to_z-of_z)

pub returns-clause-least : goal.returns-clause-least
returns-clause-least c = λ q h. rw (returns-clause-value c) (reach c.args.self.now q c.args.p.now h)

pub returns-clause-reached : goal.returns-clause-reached
returns-clause-reached c =
    let below : IsBelow c.args.self.now.lo c.args.self.now.hi = search rules in
    (nearest_in c.args.self.now c.args.p.now, nearest_is_in c.args.self.now c.args.p.now below, returns-clause-value c)
