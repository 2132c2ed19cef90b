use Rattle.std.proofs.Common.{◌≡◌, ap, sym, ◌∙◌, subst}
use Rattle.std.proofs.lemmas.Result.{IfOk-weaker}
use Rattle.kd_tree.specs.Shape.{Shape, numbers}
use Rattle.kd_tree.specs.Contents.{contents}
use Rattle.kd_mark.specs.Refresh.{AreAmong}
use Rattle.rebuild_core.specs.Lawful.{Stored}
use Rattle.rebuild_core.specs.StateView.{state_of}
use Rattle.rebuild_core.specs.Steps.{IsSettlePlan, PlannedAt, plan_with}
use Rattle.rebuild_core.proofs.Plans.{settles}
use Rattle.rebuild_core.proofs.state.MapState.settled_by.Goals as goal

pub returns : goal.returns
returns g c =
    let s = state_of c.self.inside in
    let t = c.in_ok-tree-2.tree in
    let z = c.args.self.now.state in
    let logs = c.in_ok-logs.logs.items in
    let same : c.in_ok-tree.tree ≡ s.tree = c.in_ok-tree.ensures.shape in
    let none = rw c.as_slice.ensures.value at c.in_ok-logs.ensures in
    let plan : IsSettlePlan z (plan_with t logs z) =
    settles s z t logs c.self.invariant.0 c.size-size.ensures.sound (c.in_ok-tree-2.ensures.contents ∙ ap contents same)
    (subst (λ (u : Shape). AreAmong (numbers t) (numbers u)) same c.in_ok-tree-2.ensures.numbers) c.in_ok-tree-2.ensures.criteria none (ap (λ (x : Stored). x.state) c.self.view_is) in
    IfOk-weaker c.plan_with.result (λ (p : PlannedAt). p ≡ plan_with t logs z) (IsSettlePlan z) (λ p is. subst (IsSettlePlan z) (sym is) plan) c.plan_with.ensures.planned
