use Rattle.std.proofs.lemmas.Result.{IfOk-weaker}
use Rattle.mapper_base.proofs.Printed.{legal_print}
use Rattle.mapper_core.proofs.running.callers_text.Goals as goal

pub returns : goal.returns
returns g c =
    IfOk-weaker c.transcript.result _ _ (λ v shown. legal_print c.args.script _ c.in_ok-replies.replies v.items c.in_ok-plain.ensures c.in_ok-replies.ensures shown) c.transcript.ensures
