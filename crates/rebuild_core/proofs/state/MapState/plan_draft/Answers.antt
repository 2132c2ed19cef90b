use Rattle.std.proofs.Common.{◌∙◌, ◌+◌, ap, sym}
use Rattle.map_items.specs.Fold.{points_in}
use Rattle.kd_update.specs.Detached.{watches_of}
use Rattle.rebuild_core.specs.Lawful.{StateAt, Stored}
use Rattle.rebuild_core.specs.Outcome.{MakesNodes}
use Rattle.rebuild_core.specs.StateView.{state_of}
use Rattle.map_update.specs.declared.draft.Draft.{Draft}
use Rattle.rebuild_core.proofs.OnePoint.{thinned_from, turned_copy}
use Rattle.rebuild_core.proofs.Outcome.{makes_none, plan_makes}
use Rattle.rebuild_core.proofs.Plans.{plan_shape}
use Rattle.rebuild_core.proofs.Staying.{plan_kept, plan_left, plan_logged}
use Rattle.rebuild_core.proofs.state.MapState.plan_draft.Goals as goal
use Rattle.rebuild_core.proofs.state.MapState.plan_draft.Goals.{After-changed}

pub returns-in_err-copy-clause-nodes : goal.returns-in_err-copy-clause-nodes
returns-in_err-copy-clause-nodes g c = makes_none _ _ _ _ c.in_err-copy.ensures.nodes_made

-- what the update makes of a copy it makes of the state, whatever comes then
makes : (g : _) (c : After-changed g) → MakesNodes c.args.update.now c.args.self.now.state c.args.steps.now c.changed.new.steps
makes g c =
    let is = ap (λ (x : Stored). x.state) c.self.view_is in
    let copy = c.in_ok-copy.ensures in
    plan_makes c.args.update.now (state_of c.self.inside) c.args.self.now.state c.in_ok-copy.copy.tree
    c.copied.new.steps c.args.steps.now c.changed.new.steps c.in_ok-copy.copy.watches is
    (copy.tree ∙ ap (λ (x : StateAt). x.tree) (sym is)) copy.nodes_made
    (copy.watches ∙ ap (λ (x : StateAt). watches_of x.parts) (sym is))
    c.changed.ensures.nodes_made c.changed.ensures.no_nodes_made

pub returns-in_err-draft-clause-nodes : goal.returns-in_err-draft-clause-nodes
returns-in_err-draft-clause-nodes g c = makes g (goal.at.returns-in_err-draft-clause-nodes g c).After-changed

pub returns-in_err-logs-clause-nodes : goal.returns-in_err-logs-clause-nodes
returns-in_err-logs-clause-nodes g c = makes g (goal.at.returns-in_err-logs-clause-nodes g c).After-changed

pub returns-clause-nodes : goal.returns-clause-nodes
returns-clause-nodes g c = makes g (goal.at.returns-clause-nodes g c).After-changed

pub returns-clause-leaves : goal.returns-clause-leaves
returns-clause-leaves g c =
    let s = state_of c.self.inside in
    let z = c.args.self.now.state in
    let u = c.args.update.now in
    let t = c.in_ok-copy.copy.tree in
    let new = c.in_ok-draft.draft in
    let ws = c.in_ok-copy.copy.watches in
    let logs = c.in_ok-logs.logs.items in
    let lawful = c.self.invariant.0 in
    let is = ap (λ (x : Stored). x.state) c.self.view_is in
    let same = c.in_ok-copy.ensures.tree ∙ ap (λ (x : StateAt). x.tree) (sym is) in
    let seen = c.in_ok-copy.ensures.watches ∙ ap (λ (x : StateAt). watches_of x.parts) (sym is) in
    let plans = rw c.as_slice.ensures.value at c.in_ok-logs.ensures in
    let promised = c.in_ok-draft.ensures in
    record {
      left = plan_left s z t ws new logs (s.next + points_in u) lawful is same seen promised.draft plans;
      kept = plan_kept u s z t ws new logs (s.next + points_in u) lawful is same seen promised.draft promised.kept plans;
      logged = λ op. plan_logged u op s z t ws new logs is same seen (promised.unrebuilt op) plans;
      unrebuilt = λ op. plan_shape u op s z t new.tree ws is same seen (λ only room criteria. ap (λ (d : Draft). d.tree) (promised.unrebuilt op only room criteria));
      thinned = λ p. thinned_from u s z t new.tree (s.next + points_in u) p is lawful same promised.stepped;
      rejected = λ p one turned. promised.rejected p one (turned_copy s z t p is same turned) ∙ same ∙ ap (λ (x : StateAt). x.tree) is;
    }
