use Rattle.std.proofs.Common.{◌≤◌, arith}
use Rattle.std.proofs.Math.Nat.{mul-le-mul}
use Rattle.std.proofs.lemmas.Int.{ints}
use Rattle.point_geom.proofs.distance.gap2.Goals as goal

pub returns-clause-bound : goal.returns-clause-bound
returns-clause-bound c =
    let short : c.abs_diff-gap.result ≤ 2199023255552 = omega (arith, c.abs_diff-gap.ensures, ints) in
    mul-le-mul short short
