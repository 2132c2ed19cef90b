use Rattle.std.proofs.Common.{◌≡◌, ap, ◌∙◌}
use Rattle.std.proofs.lemmas.Result.{IfOk-weaker}
use Rattle.kd_tree.specs.Contents.{contents}
use Rattle.kd_tree.specs.Parts.{contents_of_parts, fork_of}
use Rattle.kd_tree.proofs.Contents.{contents-joined}
use Rattle.kd_tree.proofs.node.Tree.put_together.Goals as goal

pub returns-clause-contents : goal.returns-clause-contents
returns-clause-contents g c =
    IfOk-weaker c.filled.result _ (λ t. contents t ≡ contents_of_parts (fork_of c.args.node))
    (λ t e. ap contents (e ∙ c.made-node.ensures.shape) ∙ contents-joined (fork_of c.args.node) c.requires.sound.once) c.filled.ensures
