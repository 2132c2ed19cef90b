use Rattle.std.proofs.Common.{sym, ap, ◌∙◌}
use Rattle.scan_log.proofs.Made.{refused, boxed}
use Rattle.scan_log.proofs.boxes.cuboid.Goals as goal

pub returns-in-Ok : goal.returns-in-Ok
returns-in-Ok c =
    let lo = c.in_ok-lo.ensures in
    let hi = c.in_ok-hi.ensures in
    ap refused c.in-Ok.ensures.exact ∙ sym (boxed c.args.format _ _ _ _ _ _ _ _ lo.value hi.value lo.limits hi.limits)

pub returns-in-Err : goal.returns-in-Err
returns-in-Err c =
    let lo = c.in_ok-lo.ensures in
    let hi = c.in_ok-hi.ensures in
    ap refused c.in-Err.ensures.exact ∙ sym (boxed c.args.format _ _ _ _ _ _ _ _ lo.value hi.value lo.limits hi.limits)
