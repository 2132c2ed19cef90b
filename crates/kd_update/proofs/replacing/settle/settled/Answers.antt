use Rattle.std.proofs.Common.{◌≡◌}
use Rattle.std.proofs.lemmas.Result.{IfOk-weaker}
use Rattle.kd_tree.specs.Contents.{contents}
use Rattle.kd_tree.proofs.Actions.{sound_once}
use Rattle.kd_mark.proofs.Refresh.{refresh_contents}
use Rattle.kd_update.proofs.replacing.settle.settled.Goals as goal

pub returns-clause-contents : goal.returns-clause-contents
returns-clause-contents c =
    IfOk-weaker c.settled_by.result _ (λ t. contents t ≡ contents c.args.tree)
    (λ t k. refresh_contents c.args.tree t (sound_once c.args.tree c.size-size.ensures.sound) k.refresh) c.settled_by.ensures
