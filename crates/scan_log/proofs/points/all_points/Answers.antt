use Rattle.std.proofs.Common.{◌≤◌, length, length-drop, sym, ◌∙◌, arith}
use Rattle.scan_log.proofs.Fronts.{points_bad, points_next}
use Rattle.scan_log.proofs.StepLemmas.{passed_on}
use Rattle.scan_log.specs.declared.line_fault.LineFault.TheVariants.{Bad}
use Rattle.scan_log.proofs.points.all_points.Goals as goal

pub returns-in_err-point : goal.returns-in_err-point
returns-in_err-point c =
    let fields = c.loop.fields in
    let some : 3 ≤ length fields = omega (arith, c.loop.invariant.count, c.loop-test.true) in
    rw (passed_on _ (Bad c.in_err-point.field-0.0) c.from_residual-in_err-point.ensures.1)
    (sym c.loop.invariant.left ∙ points_bad c.args.format c.loop.points.items fields c.in_err-point.field-0.0 some (sym c.in_err-point.ensures.value))

pub loop-preserved : goal.loop-preserved
loop-preserved c =
    let fields = c.loop.fields in
    let p = c.in_ok-point.ensures in
    let some : 3 ≤ length fields = omega (arith, c.loop.invariant.count, c.loop-test.true) in
    record {
      left = rw (c.in_ok-push.ensures.items, p.rest) (sym (points_next c.args.format c.loop.points.items fields c.in_ok-point.point some (sym p.value)) ∙ c.loop.invariant.left);
      count = rw p.rest (omega (arith, length-drop 3 fields, some, c.loop.invariant.count));
    }
