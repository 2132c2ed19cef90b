use Rattle.std.proofs.Common.{◌∙◌, ap, arith, subst, sym}
use Rattle.std.proofs.lemmas.Result.{IfOk-weaker}
use Rattle.kd_tree.specs.Parts.{fork_in, fork_of}
use Rattle.kd_mark.specs.Update.{IsSettled}
use Rattle.kd_mark.proofs.Trees.{pushed_smaller}
use Rattle.kd_update.specs.Settle.{IsKnown}
use Rattle.kd_update.specs.declared.replacing.settle.Known.{Known}
use Rattle.kd_update.proofs.Settling.{breached_not, settled_clean, settled_sound, settled_fork}
use Rattle.kd_update.proofs.replacing.settle.+settle.Goals as goal

pub settled_at-returns-in-Clean : goal.settled_at-returns-in-Clean
settled_at-returns-in-Clean g t c = settled_clean c.args.tree (subst (λ (k : Known). IsKnown k c.args.tree) c.in-Clean.is c.requires)

pub settled_along-settled_at-requires : goal.settled_along-settled_at-requires
settled_along-settled_at-requires g t c κs within =
    let parts = ap fork_in (sym c.in-Some-2.is) ∙ c.in_ok-node.ensures.parts in
    (omega (arith, (pushed_smaller c.args.tree (fork_of c.in-Some-2.node) parts).0), (within, (c.known_of_children-known.ensures (fork_of c.in-Some-2.node) parts).left))

pub settled_along-settled_at-requires-2 : goal.settled_along-settled_at-requires-2
settled_along-settled_at-requires-2 g t c κs within =
    let parts = ap fork_in (sym c.in-Some-2.is) ∙ c.in_ok-node.ensures.parts in
    (omega (arith, (pushed_smaller c.args.tree (fork_of c.in-Some-2.node) parts).1), (within, (c.known_of_children-known.ensures (fork_of c.in-Some-2.node) parts).right))

pub settled_along-joined_and_rebuilt_if_due-requires : goal.settled_along-joined_and_rebuilt_if_due-requires
settled_along-joined_and_rebuilt_if_due-requires g t c =
    settled_sound c.args.tree (fork_of c.in-Some-2.node) c.in_ok-left.left c.in_ok-right.right
    (ap fork_in (sym c.in-Some-2.is) ∙ c.in_ok-node.ensures.parts) c.size-size.ensures.sound c.in_ok-left.ensures
    c.in_ok-right.ensures

pub settled_along-returns : goal.settled_along-returns
settled_along-returns g t c =
    IfOk-weaker c.joined_and_rebuilt_if_due.result _ (IsSettled c.args.tree)
    (λ u done. settled_fork c.args.tree (fork_of c.in-Some-2.node) c.in_ok-left.left c.in_ok-right.right u
    (ap fork_in (sym c.in-Some-2.is) ∙ c.in_ok-node.ensures.parts) c.size-size.ensures.sound c.in_ok-left.ensures
    c.in_ok-right.ensures done (breached_not c.args.tree c.args.path.now c.requires))
    c.joined_and_rebuilt_if_due.ensures.due
