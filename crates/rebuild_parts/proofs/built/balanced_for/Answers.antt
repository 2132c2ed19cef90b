use Rattle.std.proofs.lemmas.Result.{IfOk-weaker}
use Rattle.kd_mark.specs.Update.{IsBalancedBelow}
use Rattle.kd_mark.proofs.Update.{criteria_balanced}
use Rattle.rebuild_parts.proofs.built.balanced_for.Goals as goal

pub returns-clause-balance : goal.returns-clause-balance
returns-clause-balance g c = IfOk-weaker c.rebuilt.result _ (IsBalancedBelow c.args.large) (λ t k. criteria_balanced c.args.large t k) c.rebuilt.ensures.criteria
