use Rattle.std.proofs.Common.{◌≡◌, rules}
use Rattle.point_geom.specs.Boxes.{unit_box}
use Rattle.point_geom.proofs.Laws.{unit_alone, unit_held}
use Rattle.point_geom.proofs.cuboid.Cuboid.unit.Goals as goal

pub returns-clause-meaning : goal.returns-clause-meaning
returns-clause-meaning c =
    let value : c.cube.result ≡ unit_box c.args.p.now = search rules in
    λ q. rw value (unit_alone c.args.p.now q, unit_held c.args.p.now q)
