use Rattle.std.proofs.Common.{◌≡◌, arith, rules}
use Rattle.point_geom.specs.Distances.{gap2}
use Rattle.kd_frozen.proofs.distance.close_dist2.Goals as goal

pub overflow_add-result : goal.overflow_add-result
overflow_add-result c =
    let x : c.close_gap2-x.result ≡ gap2 c.args.a.now.x c.args.b.now.x = search rules in
    let y : c.close_gap2-y.result ≡ gap2 c.args.a.now.y c.args.b.now.y = search rules in
    omega (arith, c.requires, x, y)

pub overflow_add-result-2 : goal.overflow_add-result-2
overflow_add-result-2 c =
    let x : c.close_gap2-x.result ≡ gap2 c.args.a.now.x c.args.b.now.x = search rules in
    let y : c.close_gap2-y.result ≡ gap2 c.args.a.now.y c.args.b.now.y = search rules in
    let z : c.close_gap2-z.result ≡ gap2 c.args.a.now.z c.args.b.now.z = search rules in
    omega (arith, c.requires, x, y, z)
