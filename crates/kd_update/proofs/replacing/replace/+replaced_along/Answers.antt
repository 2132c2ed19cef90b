use Rattle.std.proofs.Common.{sym, ap, ◌∙◌, subst, arith, refl, List, Some, IfOk}
use Rattle.std.proofs.lemmas.Result.{IfOk-weaker}
use Rattle.kd_tree.specs.Shape.{Shape}
use Rattle.kd_tree.specs.Parts.{replaced_at, with_child}
use Rattle.kd_tree.specs.declared.path.Side.{Side}
use Rattle.kd_mark.specs.Refresh.{IsNotDue, RefreshesIfDue}
use Rattle.kd_update.specs.Replace.{HasRoomAt, IsReplaced, RebuildsNoneAbove, StandsFor}
use Rattle.kd_update.proofs.StandsFor.{replaced_root, child_calm, child_replaced, child_room, child_sound, child_stands, child_there}
use Rattle.kd_update.proofs.replacing.replace.+replaced_along.Goals as goal
use Rattle.kd_update.proofs.replacing.replace.+replaced_along.Goals.{In_ok-child}

pub returns-in_default-clause-replaced : goal.returns-in_default-clause-replaced
returns-in_default-clause-replaced g t c =
    replaced_root c.args.large c.args.sides.now c.args.tree c.args.with c.in_default.ensures.cases c.requires.stands

pub returns-in_default-child_of-clause-replaced : goal.returns-in_default-child_of-clause-replaced
returns-in_default-child_of-clause-replaced g t c =
    absurd (child_there c.in-Some.side.now c.in-Some.rest.now c.args.tree c.args.with
    (c.in_default-child_of.ensures.none.0 refl)
    (subst (λ (p : List Side). StandsFor p c.args.tree c.args.with) c.in-Some.ensures.cases.0 c.requires.stands))

pub replaced_along-requires : goal.replaced_along-requires
replaced_along-requires g t c κs within =
    let side = c.in-Some.side.now in
    let rest = c.in-Some.rest.now in
    let child = c.in-Some-child_of.child.now in
    let there = c.in-Some-child_of.ensures.some in
    let stands = child_stands side rest c.args.tree c.args.with child there (subst (λ (p : List Side). StandsFor p c.args.tree c.args.with) c.in-Some.ensures.cases.0 c.requires.stands) in
    let room = child_room side rest c.args.tree c.args.with child there (subst (λ (p : List Side). HasRoomAt p c.args.with c.args.tree) c.in-Some.ensures.cases.0 c.requires.room) in (
      omega (arith, c.in-Some.ensures.cases.1),
      (
        within,
        (
          subst (λ (s : Shape). StandsFor rest s c.args.with) (sym c.in_ok-child.ensures.shape) stands,
          subst (λ (s : Shape). HasRoomAt rest c.args.with s) (sym c.in_ok-child.ensures.shape) room,
        ),
      ),
    )

-- `child_calm` of a copy of the child
calm : (g : _) (t : _) (c : In_ok-child g t) → RebuildsNoneAbove c.args.large c.args.sides.now (replaced_at c.args.sides.now c.args.with c.args.tree)
    → IsNotDue c.args.large
    (with_child c.in-Some.side.now (replaced_at c.in-Some.rest.now c.args.with c.in_ok-child.child) c.args.tree) ×
    RebuildsNoneAbove c.args.large c.in-Some.rest.now (replaced_at c.in-Some.rest.now c.args.with c.in_ok-child.child)
calm g t c k =
    child_calm c.args.large c.in-Some.side.now c.in-Some.rest.now c.args.tree c.args.with c.in_ok-child.child (c.in-Some-child_of.ensures.some ∙ ap Some (sym c.in_ok-child.ensures.shape))
    (subst (λ (p : List Side). RebuildsNoneAbove c.args.large p (replaced_at p c.args.with c.args.tree)) c.in-Some.ensures.cases.0 k)

pub returns-in_err-child-2-clause-nodes_made : goal.returns-in_err-child-2-clause-nodes_made
returns-in_err-child-2-clause-nodes_made g t c = λ k.
    let k' = calm g t (goal.at.returns-in_err-child-2-clause-nodes_made g t c).In_ok-child k in
    omega (arith, c.replaced_along.ensures.nodes_made k'.1, c.in-Some.ensures.cases.1)

pub returns-in_err-tree-clause-nodes_made : goal.returns-in_err-tree-clause-nodes_made
returns-in_err-tree-clause-nodes_made g t c = λ k.
    let k' = calm g t (goal.at.returns-in_err-tree-clause-nodes_made g t c).In_ok-child k in
    omega (arith, c.replaced_along.ensures.nodes_made k'.1, c.with_child.ensures.nodes_made, c.in-Some.ensures.cases.1)

pub returns-clause-nodes_made : goal.returns-clause-nodes_made
returns-clause-nodes_made g t c = λ k.
    let k' = calm g t (goal.at.returns-clause-nodes_made g t c).In_ok-child k in
    let same = c.in_ok-tree.ensures.shape ∙ ap (λ (s : Shape). with_child c.in-Some.side.now s c.args.tree) (c.in_ok-child-2.ensures.replaced.unrebuilt k'.1) in
    omega (
      arith,
      c.replaced_along.ensures.nodes_made k'.1,
      c.with_child.ensures.nodes_made,
      c.rebuilt_if_due.ensures.no_nodes_made (subst (IsNotDue c.args.large) (sym same) k'.0),
      c.in-Some.ensures.cases.1,
    )

pub with_child-requires : goal.with_child-requires
with_child-requires g t c =
    let room = subst (λ (p : List Side). HasRoomAt p c.args.with c.args.tree) c.in-Some.ensures.cases.0 c.requires.room in
    let done = subst (λ (s : Shape). IsReplaced c.args.large c.in-Some.rest.now s c.args.with c.in_ok-child-2.child) c.in_ok-child.ensures.shape c.in_ok-child-2.ensures.replaced in
    child_sound c.args.large c.in-Some.side.now _ c.args.tree c.args.with c.in-Some-child_of.child.now c.in_ok-child-2.child c.in-Some-child_of.ensures.some c.size-size.ensures.sound room done

pub returns-clause-replaced : goal.returns-clause-replaced
returns-clause-replaced g t c =
    let path = c.in-Some.ensures.cases.0 in
    let room = subst (λ (p : List Side). HasRoomAt p c.args.with c.args.tree) path c.requires.room in
    let done = subst (λ (s : Shape). IsReplaced c.args.large c.in-Some.rest.now s c.args.with c.in_ok-child-2.child) c.in_ok-child.ensures.shape c.in_ok-child-2.ensures.replaced in
    let due = subst (λ (s : Shape). IfOk c.rebuilt_if_due.result (λ u. RefreshesIfDue c.args.large s u)) c.in_ok-tree.ensures.shape c.rebuilt_if_due.ensures.due in
    IfOk-weaker c.rebuilt_if_due.result _ (λ u. IsReplaced c.args.large c.args.sides.now c.args.tree c.args.with u)
    (λ u k. subst (λ (p : List Side). IsReplaced c.args.large p c.args.tree c.args.with u) (sym path)
    (child_replaced c.args.large c.in-Some.side.now _ c.args.tree c.args.with c.in-Some-child_of.child.now
    c.in_ok-child-2.child u c.in-Some-child_of.ensures.some c.size-size.ensures.sound room done k)) due
