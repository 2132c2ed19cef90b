use Rattle.std.proofs.Common.{subst}
use Rattle.std.proofs.lemmas.Result.{IfOk-weaker}
use Rattle.kd_tree.specs.Shape.{Shape, numbers}
use Rattle.kd_mark.specs.Refresh.{AreAmong}
use Rattle.map_update.proofs.draft.rebuilt_copy.Goals as goal

pub returns-clause-numbers : goal.returns-clause-numbers
returns-clause-numbers g c =
    IfOk-weaker c.rebuilt.result _ (λ t. AreAmong (numbers t) (numbers c.args.tree.now))
    (λ t k. subst (λ (s : Shape). AreAmong (numbers t) (numbers s)) c.in_ok-copy.ensures.shape k) c.rebuilt.ensures.numbers
