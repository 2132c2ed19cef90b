use Rattle.std.proofs.Common.{◌≡◌, ◌+◌, ◌-◌, suc, arith}
use Rattle.mapper_base.proofs.Scans.{made_next, made_all}
use Rattle.mapper_base.proofs.generated.made.Goals as goal

pub loop-scan-preserved : goal.loop-scan-preserved
loop-scan-preserved c =
    let one : c.args.scans - c.loop-scan.scan ≡ suc (c.args.scans - (c.loop-scan.scan + 1)) = omega (arith, c.loop-scan-test.true) in
    let pushed = c.in_ok-push_scan.ensures in
    made_next c.args.scans _ _ c.loop-scan.scan _ _ c.loop-scan.script c.push_scan.new.script c.loop-scan.invariant one
    pushed.format pushed.sizes pushed.commands pushed.count pushed.points pushed.hits pushed.moved

pub returns : goal.returns
returns c =
    let none : c.args.scans - c.loop-scan.scan ≡ 0 = omega (arith, c.loop-scan-test.false) in
    made_all c.args.scans _ _ _ c.loop-scan.script c.loop-scan.invariant none
