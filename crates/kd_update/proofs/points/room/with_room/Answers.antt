use Rattle.std.proofs.lemmas.Result.{IfOk-weaker}
use Rattle.kd_mark.specs.Update.{KeepsBalance}
use Rattle.kd_mark.proofs.Update.{criteria_balanced}
use Rattle.kd_update.proofs.points.room.with_room.Goals as goal

pub returns-clause-balance : goal.returns-clause-balance
returns-clause-balance g c = IfOk-weaker c.rebuilt.result _ (λ t. KeepsBalance c.args.tree t) (λ t criteria large balanced. criteria_balanced large t criteria) c.rebuilt.ensures.criteria
