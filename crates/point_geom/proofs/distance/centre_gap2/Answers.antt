use Rattle.std.proofs.Common.{◌≡◌, ◌≤◌, ◌*◌, ap, ◌+ℤ◌, ◌-ℤ◌, arith}
use Rattle.std.specs.Prelude.{unsigned_abs}
use Rattle.std.proofs.Math.Nat.{mul-le-mul}
use Rattle.std.proofs.lemmas.Int.{ints}
use Rattle.point_geom.proofs.distance.centre_gap2.Goals as goal

pub returns-clause-value : goal.returns-clause-value
returns-clause-value c =
    let gap : c.abs_diff-gap.result ≡ unsigned_abs ((c.args.c +ℤ c.args.c) -ℤ (c.args.lo +ℤ c.args.hi)) =
    omega (arith, ints, c.abs_diff-gap.ensures) in
    ap (λ n. n * n) gap

pub returns-clause-bound : goal.returns-clause-bound
returns-clause-bound c =
    let short : c.abs_diff-gap.result ≤ 4398048511104 = omega (arith, c.abs_diff-gap.ensures, ints) in
    mul-le-mul short short
