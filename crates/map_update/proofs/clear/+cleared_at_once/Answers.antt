use Rattle.std.proofs.Common.{◌∙◌, ap, arith, length, subst, sym}
use Rattle.std.proofs.lemmas.Bool.{eqb-true}
use Rattle.std.proofs.lemmas.List.Sorted.{IsPermutation-trans}
use Rattle.std.proofs.lemmas.Result.{IfOk-weaker}
use Rattle.node_labels.specs.Labels.{thin_tag}
use Rattle.map_items.specs.declared.item.Item.{Item}
use Rattle.kd_tree.specs.Shape.{fork}
use Rattle.kd_tree.specs.Walk.{tagged}
use Rattle.kd_tree.specs.Parts.{fork_in, fork_of}
use Rattle.kd_tree.specs.Sound.{IsSoundFork}
use Rattle.kd_mark.specs.Refresh.{RefreshesIfDue}
use Rattle.kd_mark.specs.Update.{IsBalancedBelow}
use Rattle.kd_mark.proofs.Trees.{pushed_smaller}
use Rattle.kd_mark.proofs.Refresh.{head}
use Rattle.kd_mark.proofs.TakenApart.{apart}
use Rattle.map_update.specs.Clearing.{IsCleared}
use Rattle.map_update.proofs.Clearing.{ArePicked, cleared_covered, cleared_none, cleared_picked, picked_at, picked_moved, step_balanced, step_cleared, step_sound}
use Rattle.map_update.proofs.clear.+cleared_at_once.Goals as goal
use Rattle.map_update.proofs.clear.+cleared_at_once.Goals.{After-split_at_mut-met}

-- the boxes that meet the tree are at the front
picked : (g : _) (t : _) (c : After-split_at_mut-met g t) → ArePicked c.args.cuboids.now c.split_at_mut-met.result.0.now c.split_at_mut-met.result.1.now c.args.tree
picked g t c =
    picked_at c.args.cuboids.now c.moved_front-count.new.cuboids _ _ c.moved_front-count.result c.in-Some.extent c.args.tree c.in-Some.ensures.value
    c.moved_front-count.ensures.moved c.moved_front-count.ensures.missed c.split_at_mut-met.ensures.front c.split_at_mut-met.ensures.back

pub returns-then-is_empty-clause-cleared : goal.returns-then-is_empty-clause-cleared
returns-then-is_empty-clause-cleared g t c =
    cleared_picked c.args.cuboids.now _ _ c.args.tree c.args.tree (picked g t (goal.at.returns-then-is_empty-clause-cleared g t c).After-split_at_mut-met)
    (cleared_none c.split_at_mut-met.result.0.now c.args.tree
    (eqb-true (length c.split_at_mut-met.result.0.now) 0 (sym c.is_empty.ensures ∙ c.if-is_empty.true)))

pub returns-then-is_covered-clause-cleared : goal.returns-then-is_covered-clause-cleared
returns-then-is_covered-clause-cleared g t c =
    let k = picked g t (goal.at.returns-then-is_covered-clause-cleared g t c).After-split_at_mut-met in
    IfOk-weaker c.tagged.result _ (IsCleared c.args.cuboids.now c.args.tree)
    (λ v is. subst (IsCleared c.args.cuboids.now c.args.tree) (sym is) (cleared_picked c.args.cuboids.now _ _ c.args.tree (tagged thin_tag c.args.tree) k
    (cleared_covered c.split_at_mut-met.result.0.now c.in-Some.extent c.args.tree c.in-Some.ensures.value (sym c.is_covered.ensures ∙ c.if-is_covered.true))))
    c.tagged.ensures.shape

pub returns-in_err-left-clause-moved : goal.returns-in_err-left-clause-moved
returns-in_err-left-clause-moved g t c =
    picked_moved c.args.cuboids.now _ _ c.cleared_at_once.new.cuboids c.args.tree (picked g t (goal.at.returns-in_err-left-clause-moved g t c).After-split_at_mut-met) c.cleared_at_once.ensures.moved

pub cleared_at_once-requires : goal.cleared_at_once-requires
cleared_at_once-requires g t c κs within = (
  omega (arith, (pushed_smaller c.args.tree (fork_of c.in-Some-2.node) (ap fork_in (sym c.in-Some-2.is) ∙ c.in_ok-node.ensures.parts)).0),
  within,
)

pub cleared_at_once-requires-2 : goal.cleared_at_once-requires-2
cleared_at_once-requires-2 g t c κs within = (
  omega (arith, (pushed_smaller c.args.tree (fork_of c.in-Some-2.node) (ap fork_in (sym c.in-Some-2.is) ∙ c.in_ok-node.ensures.parts)).1),
  within,
)

pub returns-in_err-right-clause-moved : goal.returns-in_err-right-clause-moved
returns-in_err-right-clause-moved g t c =
    picked_moved c.args.cuboids.now _ _ c.cleared_at_once-2.new.cuboids c.args.tree (picked g t (goal.at.returns-in_err-right-clause-moved g t c).After-split_at_mut-met)
    (IsPermutation-trans _ _ _ c.cleared_at_once.ensures.moved c.cleared_at_once-2.ensures.moved)

pub joined_and_rebuilt_if_due-requires : goal.joined_and_rebuilt_if_due-requires
joined_and_rebuilt_if_due-requires g t c =
    subst (λ (i : Item). IsSoundFork (head i c.in-Some-2.node.axis) c.in_ok-left.left c.in_ok-right.right) (sym c.thinned-item.ensures)
    (step_sound c.split_at_mut-met.result.0.now c.cleared_at_once.new.cuboids c.args.tree (fork_of c.in-Some-2.node) c.in_ok-left.left c.in_ok-right.right
    (apart c.args.tree (fork_of c.in-Some-2.node) (ap fork_in (sym c.in-Some-2.is) ∙ c.in_ok-node.ensures.parts) c.size-size.ensures.sound)
    c.cleared_at_once.ensures.moved c.in_ok-left.ensures.cleared c.in_ok-right.ensures.cleared)

pub returns-clause-cleared : goal.returns-clause-cleared
returns-clause-cleared g t c =
    let f = fork_of c.in-Some-2.node in
    let front = c.split_at_mut-met.result.0.now in
    IfOk-weaker c.joined_and_rebuilt_if_due.result _ (IsCleared c.args.cuboids.now c.args.tree)
    (λ v done. cleared_picked c.args.cuboids.now _ _ c.args.tree v (picked g t (goal.at.returns-clause-cleared g t c).After-split_at_mut-met)
    (step_cleared c.args.large front c.cleared_at_once.new.cuboids c.args.tree f c.in_ok-left.left c.in_ok-right.right v
    (apart c.args.tree f (ap fork_in (sym c.in-Some-2.is) ∙ c.in_ok-node.ensures.parts) c.size-size.ensures.sound)
    c.cleared_at_once.ensures.moved c.in_ok-left.ensures.cleared c.in_ok-right.ensures.cleared
    (subst (λ (i : Item). RefreshesIfDue c.args.large (fork (head i f.axis) c.in_ok-left.left c.in_ok-right.right) v) c.thinned-item.ensures done)))
    c.joined_and_rebuilt_if_due.ensures.due

pub returns-clause-balance : goal.returns-clause-balance
returns-clause-balance g t c =
    IfOk-weaker c.joined_and_rebuilt_if_due.result _ (λ v. IsBalancedBelow c.args.large c.args.tree → IsBalancedBelow c.args.large v)
    (λ v done balanced. step_balanced c.args.large c.args.tree (fork_of c.in-Some-2.node) (head c.thinned-item.result c.in-Some-2.node.axis)
    c.in_ok-left.left c.in_ok-right.right v (ap fork_in (sym c.in-Some-2.is) ∙ c.in_ok-node.ensures.parts)
    c.in_ok-left.ensures.balance c.in_ok-right.ensures.balance done balanced)
    c.joined_and_rebuilt_if_due.ensures.due

pub returns-clause-moved : goal.returns-clause-moved
returns-clause-moved g t c =
    picked_moved c.args.cuboids.now _ _ c.cleared_at_once-2.new.cuboids c.args.tree (picked g t (goal.at.returns-clause-moved g t c).After-split_at_mut-met)
    (IsPermutation-trans _ _ _ c.cleared_at_once.ensures.moved c.cleared_at_once-2.ensures.moved)
