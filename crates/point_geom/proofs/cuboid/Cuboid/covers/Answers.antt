use Rattle.std.proofs.Common.{◌≡◌, rules}
use Rattle.point_geom.specs.Extents.{covers}
use Rattle.point_geom.proofs.Laws.{covered_held, held_covers}
use Rattle.point_geom.proofs.cuboid.Cuboid.covers.Goals as goal

pub returns-then-lo-clause-meaning : goal.returns-then-lo-clause-meaning
returns-then-lo-clause-meaning c =
    let value : c.holds-hi.result ≡ covers c.args.self.now c.args.e.now = search rules in
    rw value
    (λ h p. covered_held c.args.self.now c.args.e.now p h, held_covers c.args.self.now c.args.e.now c.lo.ensures.below)
