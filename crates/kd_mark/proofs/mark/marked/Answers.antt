use Rattle.std.proofs.Common.{arith}
use Rattle.std.proofs.lemmas.Result.{IfOk-weaker}
use Rattle.kd_mark.specs.Update.{IsBalancedBelow}
use Rattle.kd_mark.proofs.InBox.{marked_contents, marked_numbers}
use Rattle.kd_mark.proofs.Made.{made_few}
use Rattle.kd_mark.proofs.Several.{balanced_free}
use Rattle.kd_mark.proofs.mark.marked.Goals as goal

pub returns-clause-contents : goal.returns-clause-contents
returns-clause-contents g c = IfOk-weaker c.marked_within.result _ _ (λ t u. marked_contents _ _ _ t c.size-size.ensures.sound u.refresh) c.marked_within.ensures.updated

pub returns-clause-numbers : goal.returns-clause-numbers
returns-clause-numbers g c = IfOk-weaker c.marked_within.result _ _ (λ t u. marked_numbers _ _ _ t u.refresh) c.marked_within.ensures.updated

pub returns-clause-balance : goal.returns-clause-balance
returns-clause-balance g c = λ balanced. IfOk-weaker c.marked_within.result _ (λ t. IsBalancedBelow c.args.large t) (λ t u. balanced_free _ _ _ t _ u balanced) c.marked_within.ensures.updated

pub returns-clause-nodes_made : goal.returns-clause-nodes_made
returns-clause-nodes_made g c = λ criteria. omega (arith, c.marked_within.ensures.nodes_made criteria, made_few c.args.choice.now c.args.tree)
