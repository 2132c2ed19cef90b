use Rattle.std.proofs.Common.{◌≡◌, ◌+◌, ◌≤◌, IfOk, List, ap, refl, subst, sym, ◌∙◌}
use Rattle.map_items.specs.Fold.{points_in}
use Rattle.kd_tree.specs.Shape.{Shape}
use Rattle.rebuild_core.specs.Lawful.{StateAt}
use Rattle.rebuild_parts.specs.Logs.{LogPlan, planned_parts}
use Rattle.rebuild_core.specs.Outcome.{IsLeftByUpdate}
use Rattle.rebuild_core.specs.Steps.{HasRoom, IsPlanDraft, IsUpdatePlan}
use Rattle.rebuild_core.specs.declared.plan.PlanDraft.{PlanDraft}
use Rattle.rebuild_core.proofs.Outcome.{makes_none, makes_on}
use Rattle.rebuild_core.proofs.state.MapState.plan_update.Goals as goal

-- lending changes nothing that the state holds
pub plan_draft-draft-requires : goal.plan_draft-draft-requires
plan_draft-draft-requires g c = record { few = subst (λ (s : StateAt). s.next + points_in c.args.update ≤ 4194304) (sym c.take_scratch-scratch.ensures.same) c.in_ok-next.ensures.room.points }

pub plan_of-requires-clause-room : goal.plan_of-requires-clause-room
plan_of-requires-clause-room g c = subst (HasRoom c.args.update) (sym (c.put_scratch.ensures.same ∙ c.take_scratch-scratch.ensures.same)) c.in_ok-next.ensures.room

pub plan_of-requires-clause-next : goal.plan_of-requires-clause-next
plan_of-requires-clause-next g c = c.in_ok-next.ensures.next ∙ ap (λ (x : StateAt). x.next + points_in c.args.update) (sym (c.put_scratch.ensures.same ∙ c.take_scratch-scratch.ensures.same))

pub plan_of-requires-clause-plan_draft : goal.plan_of-requires-clause-plan_draft
plan_of-requires-clause-plan_draft g c =
    let u = c.args.update in
    let d = c.in_ok-draft.draft in
    let plan_draft : IsPlanDraft u c.take_scratch-scratch.new.self.state d =
    subst (λ r. IfOk r (IsPlanDraft u c.take_scratch-scratch.new.self.state)) c.in_ok-draft.was
    c.plan_draft-draft.ensures.plan_draft in
    subst (λ (x : StateAt). IsPlanDraft u x d) (sym c.put_scratch.ensures.same) plan_draft

pub returns-clause-planned : goal.returns-clause-planned
returns-clause-planned g c =
    subst (λ (x : StateAt). IsUpdatePlan c.args.caller c.args.update x c.in_ok-planned.planned) (c.put_scratch.ensures.same ∙ c.take_scratch-scratch.ensures.same) c.in_ok-planned.ensures.planned

pub returns-clause-leaves : goal.returns-clause-leaves
returns-clause-leaves g c =
    let u = c.args.update in
    let z = c.args.self.now.state in
    let d = c.in_ok-draft.draft in
    let take_scratch = c.take_scratch-scratch.new.self.state in
    let left : IsLeftByUpdate u take_scratch (planned_parts d.logs.items take_scratch.parts) d.tree =
    subst (λ r. IfOk r (λ (x : PlanDraft). IsLeftByUpdate u take_scratch (planned_parts x.logs.items take_scratch.parts) x.tree)) c.in_ok-draft.was c.plan_draft-draft.ensures.leaves in
    let here : IsLeftByUpdate u z (planned_parts d.logs.items z.parts) d.tree =
    subst (λ (x : StateAt). IsLeftByUpdate u x (planned_parts d.logs.items x.parts) d.tree)
    c.take_scratch-scratch.ensures.same left in
    let tree : IsLeftByUpdate u z (planned_parts d.logs.items z.parts) c.in_ok-planned.planned.tree =
    subst (λ (t : Shape). IsLeftByUpdate u z (planned_parts d.logs.items z.parts) t)
    (sym c.in_ok-planned.ensures.tree) here in
    subst (λ (logs : List LogPlan). IsLeftByUpdate u z (planned_parts logs z.parts) c.in_ok-planned.planned.tree) (sym c.in_ok-planned.ensures.logs) tree

pub returns-in_err-next-clause-nodes : goal.returns-in_err-next-clause-nodes
returns-in_err-next-clause-nodes g c = makes_none _ _ _ _ refl

pub returns-in_err-draft-clause-nodes : goal.returns-in_err-draft-clause-nodes
returns-in_err-draft-clause-nodes g c = makes_on _ _ _ _ _ _ c.take_scratch-scratch.ensures.same refl c.plan_draft-draft.ensures.nodes

pub returns-in_err-planned-clause-nodes : goal.returns-in_err-planned-clause-nodes
returns-in_err-planned-clause-nodes g c = makes_on _ _ _ _ _ _ c.take_scratch-scratch.ensures.same c.in_err-planned.ensures.no_nodes_made c.plan_draft-draft.ensures.nodes

pub returns-clause-nodes : goal.returns-clause-nodes
returns-clause-nodes g c = makes_on _ _ _ _ _ _ c.take_scratch-scratch.ensures.same c.in_ok-planned.ensures.no_nodes_made c.plan_draft-draft.ensures.nodes
