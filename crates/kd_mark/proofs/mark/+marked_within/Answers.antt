use Rattle.std.proofs.Common.{◌≡◌, refl, sym, ◌∙◌, arith, subst, ap, Option, None, Some}
use Rattle.std.specs.Prelude.{IfOk}
use Rattle.std.proofs.lemmas.Result.{IfOk-weaker}
use Rattle.map_items.specs.declared.item.Item.{Item}
use Rattle.map_items.specs.Contents.{marked_item, chosen_by}
use Rattle.kd_tree.specs.Shape.{fork}
use Rattle.kd_tree.specs.Parts.{fork_in, fork_of}
use Rattle.kd_tree.specs.declared.path.Side.TheVariants.{Left, Right}
use Rattle.kd_mark.specs.Reach.{reach}
use Rattle.kd_mark.specs.declared.reach.Reach.{Reach}
use Rattle.kd_mark.specs.Refresh.{IsNotDue, RefreshesIfDue}
use Rattle.kd_mark.specs.Several.{IsUpdatedClear}
use Rattle.kd_mark.proofs.Criteria.{criteria_spared}
use Rattle.kd_mark.proofs.InBox.{IsEntered, entered_all}
use Rattle.kd_mark.proofs.Made.{apart_mark, made_covered, nodes_made_entered}
use Rattle.kd_mark.proofs.Trees.{pushed_smaller}
use Rattle.kd_mark.proofs.Refresh.{head, refresh_sound}
use Rattle.kd_mark.proofs.Several.{clear_covered, clear_missed, clear_none_there, large_next, marked_joined}
use Rattle.kd_mark.proofs.Update.{children_alike}
use Rattle.kd_mark.proofs.mark.+marked_within.Goals as goal
use Rattle.kd_mark.proofs.mark.+marked_within.Goals.{In-Some-2}

-- the choice enters the node
entered : (g : _) (t : _) (c : In-Some-2 g t) → IsEntered c.args.choice.now c.args.tag c.args.tree (fork_of c.in-Some-2.node)
entered g t c =
    entered_all c.args.choice.now c.args.tag c.args.tree (fork_of c.in-Some-2.node) c.in-Some.reach
    (sym c.in-Some.is ∙ c.reach_of.ensures) (sym c.meets.ensures ∙ c.if-not-meets.false)
    (sym c.covers.ensures ∙ c.if-covers.false) c.size-size.ensures.sound
    (ap fork_in (sym c.in-Some-2.is) ∙ c.in_ok-node.ensures.parts)

pub returns-in_default-clause-updated : goal.returns-in_default-clause-updated
returns-in_default-clause-updated g t c = clear_none_there c.args.large c.args.choice.now c.args.tag _ c.args.tree _ (sym c.in_default.is ∙ c.reach_of.ensures)

pub returns-then-not-meets-clause-updated : goal.returns-then-not-meets-clause-updated
returns-then-not-meets-clause-updated g t c =
    clear_missed c.args.large c.args.choice.now c.args.tag _ c.args.tree _ c.in-Some.reach (sym c.in-Some.is ∙ c.reach_of.ensures) (sym c.meets.ensures ∙ c.if-not-meets.true)

pub returns-then-covers-clause-updated : goal.returns-then-covers-clause-updated
returns-then-covers-clause-updated g t c =
    let done =
    clear_covered c.args.large c.args.choice.now c.args.tag _ c.args.tree _ c.in-Some.reach
    (sym c.in-Some.is ∙ c.reach_of.ensures) (sym c.meets.ensures ∙ c.if-not-meets.false)
    (sym c.covers.ensures ∙ c.if-covers.true) in
    IfOk-weaker c.tagged.result _ _ (λ u e. subst (IsUpdatedClear c.args.large _ c.args.tree _ _) (sym e) done) c.tagged.ensures.shape

pub marked_within-requires : goal.marked_within-requires
marked_within-requires g t c κs within =
    let x = ap fork_in (sym c.in-Some-2.is) ∙ c.in_ok-node.ensures.parts in
    let f = fork_of c.in-Some-2.node in
    (omega (arith, (pushed_smaller c.args.tree f x).0), (within.0, (within.1, large_next _ _ _ _ c.args.tree f.left f Left x c.requires c.spared_from-large.ensures c.onward-lefts.ensures refl)))

pub marked_within-requires-2 : goal.marked_within-requires-2
marked_within-requires-2 g t c κs within =
    let x = ap fork_in (sym c.in-Some-2.is) ∙ c.in_ok-node.ensures.parts in
    let f = fork_of c.in-Some-2.node in
    (omega (arith, (pushed_smaller c.args.tree f x).1), (within.0, (within.1, large_next _ _ _ _ c.args.tree f.right f Right x c.requires c.spared_from-large.ensures c.onward-rights.ensures refl)))

pub joined_and_rebuilt_if_due-requires : goal.joined_and_rebuilt_if_due-requires
joined_and_rebuilt_if_due-requires g t c =
    let f = fork_of c.in-Some-2.node in
    rw c.marked-item.ensures (refresh_sound (marked_item (chosen_by c.args.choice.now) c.args.tag f.item) f.axis _ _
    c.in_ok-left.left c.in_ok-right.right
    (entered g t (goal.at.joined_and_rebuilt_if_due-requires g t c).In-Some-2).sound
    c.in_ok-left.ensures.updated.refresh c.in_ok-right.ensures.updated.refresh)

pub returns-clause-updated : goal.returns-clause-updated
returns-clause-updated g t c =
    let f = fork_of c.in-Some-2.node in
    let made =
    subst (λ (j : Item). IfOk c.joined_and_rebuilt_if_due.result (λ u. RefreshesIfDue c.spared_from-large.result
    (fork (head j f.axis) c.in_ok-left.left c.in_ok-right.right) u)) c.marked-item.ensures
    c.joined_and_rebuilt_if_due.ensures.due in
    IfOk-weaker c.joined_and_rebuilt_if_due.result _ _
    (λ u k. marked_joined c.args.large _ c.args.choice.now c.args.tag _ _ _ c.args.tree f _ _ u (entered g t (goal.at.returns-clause-updated g t c).In-Some-2) (ap fork_in (sym c.in-Some-2.is) ∙ c.in_ok-node.ensures.parts) c.requires
    c.spared_from-large.ensures c.onward-lefts.ensures c.onward-rights.ensures c.in_ok-left.ensures.updated c.in_ok-right.ensures.updated k) made

pub returns-then-covers-clause-nodes_made : goal.returns-then-covers-clause-nodes_made
returns-then-covers-clause-nodes_made g t c = λ criteria.
    omega (
      arith,
      c.tagged.ensures.nodes_made,
      made_covered c.args.choice.now c.args.tree c.in-Some.reach (sym c.in-Some.is ∙ c.reach_of.ensures)
          (sym c.meets.ensures ∙ c.if-not-meets.false) (sym c.covers.ensures ∙ c.if-covers.true),
    )

pub returns-in_err-node-clause-nodes_made : goal.returns-in_err-node-clause-nodes_made
returns-in_err-node-clause-nodes_made g t c =
    λ criteria. apart_mark c.args.choice.now c.args.tree c.in-Some.reach c.args.steps.now c.take_apart.new.steps
    (sym c.in-Some.is ∙ c.reach_of.ensures) (sym c.meets.ensures ∙ c.if-not-meets.false)
    (sym c.covers.ensures ∙ c.if-covers.false) c.take_apart.ensures.nodes_made

pub returns-in_err-left-clause-nodes_made : goal.returns-in_err-left-clause-nodes_made
returns-in_err-left-clause-nodes_made g t c = λ all.
    nodes_made_entered _ c.args.choice.now c.args.tag c.args.tree (fork_of c.in-Some-2.node) c.in-Some.reach
    c.args.steps.now c.take_apart.new.steps c.marked_within.new.steps c.marked_within.new.steps
    c.marked_within.new.steps (entered g t (goal.at.returns-in_err-left-clause-nodes_made g t c).In-Some-2)
    (sym c.in-Some.is ∙ c.reach_of.ensures) (sym c.meets.ensures ∙ c.if-not-meets.false)
    (sym c.covers.ensures ∙ c.if-covers.false) (ap fork_in (sym c.in-Some-2.is) ∙ c.in_ok-node.ensures.parts)
    c.take_apart.ensures.nodes_made c.marked_within.ensures.nodes_made (λ on. omega arith)
    (λ on off spared. omega arith)
    (criteria_spared c.args.large _ (g.W.Ways.paths c.args.ways.now) _ _ c.spared_from-large.ensures all)

pub returns-in_err-right-clause-nodes_made : goal.returns-in_err-right-clause-nodes_made
returns-in_err-right-clause-nodes_made g t c = λ all.
    nodes_made_entered _ c.args.choice.now c.args.tag c.args.tree (fork_of c.in-Some-2.node) c.in-Some.reach
    c.args.steps.now c.take_apart.new.steps c.marked_within.new.steps c.marked_within-2.new.steps
    c.marked_within-2.new.steps (entered g t (goal.at.returns-in_err-right-clause-nodes_made g t c).In-Some-2)
    (sym c.in-Some.is ∙ c.reach_of.ensures) (sym c.meets.ensures ∙ c.if-not-meets.false)
    (sym c.covers.ensures ∙ c.if-covers.false) (ap fork_in (sym c.in-Some-2.is) ∙ c.in_ok-node.ensures.parts)
    c.take_apart.ensures.nodes_made c.marked_within.ensures.nodes_made c.marked_within-2.ensures.nodes_made
    (λ on off spared. omega arith)
    (criteria_spared c.args.large _ (g.W.Ways.paths c.args.ways.now) _ _ c.spared_from-large.ensures all)

pub returns-clause-nodes_made : goal.returns-clause-nodes_made
returns-clause-nodes_made g t c = λ all.
    let f = fork_of c.in-Some-2.node in
    nodes_made_entered _ c.args.choice.now c.args.tag c.args.tree f c.in-Some.reach c.args.steps.now
    c.take_apart.new.steps c.marked_within.new.steps c.marked_within-2.new.steps
    c.joined_and_rebuilt_if_due.new.steps (entered g t (goal.at.returns-clause-nodes_made g t c).In-Some-2)
    (sym c.in-Some.is ∙ c.reach_of.ensures) (sym c.meets.ensures ∙ c.if-not-meets.false)
    (sym c.covers.ensures ∙ c.if-covers.false) (ap fork_in (sym c.in-Some-2.is) ∙ c.in_ok-node.ensures.parts)
    c.take_apart.ensures.nodes_made c.marked_within.ensures.nodes_made c.marked_within-2.ensures.nodes_made
    (λ on off spared. c.joined_and_rebuilt_if_due.ensures.nodes_made
    (subst (λ (j : Item). IsNotDue c.spared_from-large.result (fork (head j f.axis) c.in_ok-left.left c.in_ok-right.right)) (sym c.marked-item.ensures)
    (subst (IsNotDue c.spared_from-large.result) (sym (children_alike
    (head (marked_item (chosen_by c.args.choice.now) c.args.tag f.item) f.axis) _ _ c.in_ok-left.left
    c.in_ok-right.right (c.in_ok-left.ensures.updated.unrebuilt on)
    (c.in_ok-right.ensures.updated.unrebuilt off))) spared)))
    (criteria_spared c.args.large _ (g.W.Ways.paths c.args.ways.now) _ _ c.spared_from-large.ensures all)

pub returns-in_default-2-clause-updated : goal.returns-in_default-2-clause-updated
returns-in_default-2-clause-updated g t c =
    let none : ◌≡◌ {A = Option Reach} (Some c.in-Some.reach) None = sym c.in-Some.is ∙ c.reach_of.ensures ∙ ap reach (c.in_ok-node.ensures.none.0 (rw c.in_default-2.is refl)) in
    absurd (cc)
