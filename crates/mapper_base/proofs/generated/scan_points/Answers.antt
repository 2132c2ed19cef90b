use Rattle.std.proofs.Common.{◌≡◌, ◌+◌, ◌-◌, suc, arith}
use Rattle.mapper_base.proofs.Scans.{seen_next, seen_all}
use Rattle.mapper_base.proofs.generated.scan_points.Goals as goal

pub loop-preserved : goal.loop-preserved
loop-preserved c =
    let one : 2000 - c.loop.counter ≡ suc (2000 - (c.loop.counter + 1)) = omega (arith, c.loop-test.true) in
    rw c.in_ok-push.ensures.ok (seen_next c.args.scan c.args.draws.now _ _ _ _ _ c.point.result c.loop.invariant one c.point.ensures.place c.point.ensures.point c.point.ensures.moved)

pub returns-clause-points : goal.returns-clause-points
returns-clause-points c =
    let none : 2000 - c.loop.counter ≡ 0 = omega (arith, c.loop-test.false) in
    (seen_all c.args.scan c.args.draws.now _ _ _ c.loop.invariant none).0

pub returns-clause-moved : goal.returns-clause-moved
returns-clause-moved c =
    let none : 2000 - c.loop.counter ≡ 0 = omega (arith, c.loop-test.false) in
    (seen_all c.args.scan c.args.draws.now _ _ _ c.loop.invariant none).1
