use Rattle.std.proofs.Common.{◌+◌, ◌≤◌, [], ◌∷◌, arith, sym, subst}
use Rattle.std.proofs.lemmas.Result.{IfOk-weaker}
use Rattle.map_items.specs.declared.op.Op.{Op}
use Rattle.node_labels.specs.Labels.{keep_tag}
use Rattle.point_geom.specs.declared.axis.Axis.TheVariants.{X}
use Rattle.kd_tree.specs.Shape.{levels, nodes, numbers}
use Rattle.kd_tree.specs.Contents.{contents}
use Rattle.kd_mark.specs.Refresh.{AreAmong}
use Rattle.map_items.specs.Ops.{Fit, IsUnheld}
use Rattle.kd_mark.proofs.InBox.{levels-marked, nodes-marked}
use Rattle.kd_update.proofs.Route.{levels-put, nodes-put}
use Rattle.kd_mark.proofs.Trees.{among_same, among_append}
use Rattle.kd_tree.proofs.Contents.{unheld_free}
use Rattle.kd_update.proofs.replaying.replay.performed.Goals as goal

pub put-requires-clause-new : goal.put-requires-clause-new
put-requires-clause-new g c =
    let fit = subst (λ (o : Op). Fit (contents c.args.tree) (o ∷ [])) c.in-Put.is c.requires.fit in
    unheld_free c.in-Put.number c.in_ok-tree-in-Put.tree (subst (IsUnheld c.in-Put.number) (sym c.in_ok-tree-in-Put.ensures.contents) fit.0)

pub returns-in-Mark-clause-numbers : goal.returns-in-Mark-clause-numbers
returns-in-Mark-clause-numbers g c = rw c.in-Mark.is c.marked.ensures.numbers

pub returns-in_ok-tree-in-Put-clause-numbers : goal.returns-in_ok-tree-in-Put-clause-numbers
returns-in_ok-tree-in-Put-clause-numbers g c =
    rw c.in-Put.is
    (IfOk-weaker c.put.result _ (λ t. AreAmong (numbers t) (c.in-Put.number ∷ numbers c.args.tree))
    (λ t f n k. among_append (c.in-Put.number ∷ []) (c.in-Put.number ∷ []) (numbers c.in_ok-tree-in-Put.tree)
    (numbers c.args.tree) (among_same (c.in-Put.number ∷ [])) c.in_ok-tree-in-Put.ensures.numbers n (f n k))
    c.put.ensures.numbers)

pub returns-in_ok-tree-in-Put-clause-balance : goal.returns-in_ok-tree-in-Put-clause-balance
returns-in_ok-tree-in-Put-clause-balance g c = λ balanced. c.put.ensures.balance (c.in_ok-tree-in-Put.ensures.balance c.args.large balanced)

pub returns-in-Mark-clause-low : goal.returns-in-Mark-clause-low
returns-in-Mark-clause-low g c =
    rw c.in-Mark.is
    (IfOk-weaker c.marked.result _ (λ t. levels t ≤ levels c.args.tree + 0) (λ t f. omega (arith, f.low, levels-marked c.in-Mark.choice c.in-Mark.tag keep_tag c.args.tree)) c.marked.ensures.refresh)

pub returns-in-Mark-clause-few : goal.returns-in-Mark-clause-few
returns-in-Mark-clause-few g c =
    rw c.in-Mark.is
    (IfOk-weaker c.marked.result _ (λ t. nodes t ≤ nodes c.args.tree + 0) (λ t f. omega (arith, f.few, nodes-marked c.in-Mark.choice c.in-Mark.tag keep_tag c.args.tree)) c.marked.ensures.refresh)

pub returns-in_ok-tree-in-Put-clause-low : goal.returns-in_ok-tree-in-Put-clause-low
returns-in_ok-tree-in-Put-clause-low g c =
    rw c.in-Put.is
    (IfOk-weaker c.put.result _ (λ t. levels t ≤ levels c.args.tree + 1)
    (λ t f. omega (arith, f.low, levels-put c.in-Put.number c.in-Put.point X keep_tag c.in_ok-tree-in-Put.tree, c.in_ok-tree-in-Put.ensures.refresh.low)) c.put.ensures.refresh)

pub returns-in_ok-tree-in-Put-clause-few : goal.returns-in_ok-tree-in-Put-clause-few
returns-in_ok-tree-in-Put-clause-few g c =
    rw c.in-Put.is
    (IfOk-weaker c.put.result _ (λ t. nodes t ≤ nodes c.args.tree + 1)
    (λ t f. omega (arith, f.few, nodes-put c.in-Put.number c.in-Put.point X keep_tag c.in_ok-tree-in-Put.tree, c.in_ok-tree-in-Put.ensures.refresh.few)) c.put.ensures.refresh)
