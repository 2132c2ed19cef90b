use Rattle.std.proofs.Common.{◌∙◌}
use Rattle.std.proofs.lemmas.Result.{IfOk-weaker}
use Rattle.mapper_base.proofs.Printed.{drive_print}
use Rattle.mapper_base.proofs.serial_run.outputs.summary_text.Goals as goal

pub returns : goal.returns
returns c =
    IfOk-weaker c.summary.result _ _
    (λ v shown. drive_print c.args.scans c.args.script _ c.as_slice.result.now v.items c.in_ok-plain.ensures (c.as_slice.ensures ∙ c.in_ok-replies.ensures) shown)
    c.summary.ensures
