use Rattle.std.proofs.lemmas.Result.{IfOk-weaker}
use Rattle.mapper_base.proofs.Printed.{serial_print}
use Rattle.mapper_base.proofs.serial_run.outputs.serial_transcript.Goals as goal

pub returns : goal.returns
returns c =
    IfOk-weaker c.transcript.result _ _ (λ v shown. serial_print c.args.script _ c.in_ok-replies.replies v.items c.in_ok-plain.ensures c.in_ok-replies.ensures shown) c.transcript.ensures
