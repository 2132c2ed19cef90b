use Rattle.std.proofs.lemmas.Result.{IfOk-weaker}
use Rattle.kd_mark.specs.Update.{IsBalancedBelow}
use Rattle.kd_update.proofs.Route.{put_contents, put_numbers}
use Rattle.kd_mark.proofs.Several.{balanced_free}
use Rattle.kd_update.proofs.points.insert.put.Goals as goal

pub returns-clause-contents : goal.returns-clause-contents
returns-clause-contents g c =
    IfOk-weaker c.put_below.result _ _
    (λ t u. put_contents _ _ _ _ t c.size-size.ensures.sound c.requires.new u.refresh)
    (rw c.live-item.ensures at c.put_below.ensures.updated)

pub returns-clause-numbers : goal.returns-clause-numbers
returns-clause-numbers g c = IfOk-weaker c.put_below.result _ _ (λ t u. put_numbers _ _ _ _ t u.refresh) (rw c.live-item.ensures at c.put_below.ensures.updated)

pub returns-clause-balance : goal.returns-clause-balance
returns-clause-balance g c = λ balanced. IfOk-weaker c.put_below.result _ (λ t. IsBalancedBelow c.args.large t) (λ t u. balanced_free _ _ _ t _ u balanced) c.put_below.ensures.updated
