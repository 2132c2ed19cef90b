use Rattle.std.proofs.Common.{◌≡◌, sym, ◌∙◌, arith, subst, ap}
use Rattle.std.specs.Prelude.{IfOk}
use Rattle.std.proofs.lemmas.Result.{IfOk-weaker}
use Rattle.map_items.specs.declared.item.Item.{Item}
use Rattle.kd_tree.specs.Shape.{Shape, fork, nodes}
use Rattle.kd_tree.specs.Sound.{IsTopSound}
use Rattle.kd_tree.specs.Parts.{fork_in, fork_of}
use Rattle.kd_mark.specs.Refresh.{IsNotDue, RefreshesIfDue}
use Rattle.kd_update.specs.Put.{leaf_of, put_from}
use Rattle.kd_mark.specs.Several.{IsUpdatedClear}
use Rattle.kd_mark.proofs.Refresh.{head}
use Rattle.kd_update.proofs.Route.{IsFree, IsOnRoute, apart_put, on_route, route_spared, route_nodes_made}
use Rattle.kd_mark.proofs.Several.{large_next}
use Rattle.kd_update.proofs.Several.{clear_leaf, put_joined}
use Rattle.kd_update.proofs.Near.{near_smaller, near_sound, sides_back, with_near}
use Rattle.kd_update.proofs.points.insert.+put_below.Goals as goal
use Rattle.kd_update.proofs.points.insert.+put_below.Goals.{After-by_side-left, After-side_of-side}

-- the node is on the route, which goes on to the child on the side
on_way : (g : _) (t : _) (c : After-side_of-side g t) → IsOnRoute c.args.item.number c.args.item.point c.args.axis c.args.tree (fork_of c.in-Some.node) c.side_of-side.result
on_way g t c =
    on_route _ _ _ _ _ _ (ap fork_in (sym c.in-Some.is) ∙ c.in_ok-node.ensures.parts) c.side_of-side.ensures
    c.size-size.ensures.sound (record { low = c.requires.low; few = c.requires.few; new = c.requires.new })

-- the node with its children put back
back : (g : _) (t : _) (c : After-by_side-left g t)
    → fork (head c.in-Some.node.item c.in-Some.node.axis) c.by_side-left.result.0 c.by_side-left.result.1
    ≡ with_near c.side_of-side.result (fork_of c.in-Some.node) c.in_ok-near.near
back g t c = sides_back c.side_of-side.result (fork_of c.in-Some.node) _ _ _ _ c.by_side-near.ensures.far c.by_side-left.ensures.near c.by_side-left.ensures.far

pub returns-in_default-clause-updated : goal.returns-in_default-clause-updated
returns-in_default-clause-updated g t c =
    let i = c.args.item in
    let made = subst (λ (j : Item). IfOk c.leaf.result (λ t. t ≡ leaf_of j c.args.axis)) c.requires.live c.leaf.ensures.shape in
    IfOk-weaker c.leaf.result _ _ (λ t e. subst (IsUpdatedClear c.args.large (g.W.Ways.paths c.args.ways.now)
    c.args.tree (put_from i.number i.point c.args.axis c.args.tree) _) (sym e)
    (clear_leaf c.args.large i.number i.point c.args.axis _ c.args.tree _
    (ap fork_in (sym c.in_default.is) ∙ c.in_ok-node.ensures.parts))) made

pub put_below-requires : goal.put_below-requires
put_below-requires g t c κs within =
    let x = ap fork_in (sym c.in-Some.is) ∙ c.in_ok-node.ensures.parts in
    let same = c.by_side-near.ensures.near in
    let free = subst (IsFree c.args.item.number) (sym same) (on_way g t (goal.at.put_below-requires g t c).After-side_of-side).free in
    let there = large_next _ _ _ _ _ _ (fork_of c.in-Some.node) c.side_of-side.result x c.requires.there c.spared_from-large.ensures c.onward-below.ensures same in
    (omega (arith, near_smaller c.side_of-side.result c.args.tree (fork_of c.in-Some.node) x, ap nodes same), (within.0, (within.1, (c.requires.live, (free.low, (free.few, (free.new, there)))))))

pub joined_and_rebuilt_if_due-requires : goal.joined_and_rebuilt_if_due-requires
joined_and_rebuilt_if_due-requires g t c =
    let w = on_way g t (goal.at.joined_and_rebuilt_if_due-requires g t c).After-side_of-side in
    let u = rw (c.next-next.ensures, c.by_side-near.ensures.near) at c.in_ok-near.ensures.updated.refresh in
    subst IsTopSound (sym (back g t (goal.at.joined_and_rebuilt_if_due-requires g t c).After-by_side-left)) (near_sound c.side_of-side.result (fork_of c.in-Some.node) _ _ w.sound u)

pub returns-clause-updated : goal.returns-clause-updated
returns-clause-updated g t c =
    let w = on_way g t (goal.at.returns-clause-updated g t c).After-side_of-side in
    let x = ap fork_in (sym c.in-Some.is) ∙ c.in_ok-node.ensures.parts in
    let made =
    subst
    (λ (s : Shape). IfOk c.joined_and_rebuilt_if_due.result (λ v. RefreshesIfDue c.spared_from-large.result s v))
    (back g t (goal.at.returns-clause-updated g t c).After-by_side-left) c.joined_and_rebuilt_if_due.ensures.due
    in
    IfOk-weaker c.joined_and_rebuilt_if_due.result _ _ (λ v k. put_joined _ _ _ _ _ _ _ _ _ _ _ v (fork_of c.in-Some.node) c.side_of-side.result w x c.size-size.ensures.sound c.requires.new c.requires.few c.requires.there
    c.spared_from-large.ensures c.next-next.ensures c.onward-below.ensures c.by_side-near.ensures.near c.in_ok-near.ensures.updated k) made

pub returns-in_err-node-clause-nodes_made : goal.returns-in_err-node-clause-nodes_made
returns-in_err-node-clause-nodes_made g t c =
    λ criteria. apart_put c.args.item.point c.args.tree c.args.steps.now c.take_apart.new.steps
    c.take_apart.ensures.nodes_made c.take_apart.ensures.no_nodes_made

pub returns-in_err-near-clause-nodes_made : goal.returns-in_err-near-clause-nodes_made
returns-in_err-near-clause-nodes_made g t c = λ all.
    let w = on_way g t (goal.at.returns-in_err-near-clause-nodes_made g t c).After-side_of-side in
    route_nodes_made _ _ _ _ _ _ _ (fork_of c.in-Some.node) c.side_of-side.result c.args.steps.now
    c.take_apart.new.steps c.put_below.new.steps c.put_below.new.steps w c.next-next.ensures
    c.by_side-near.ensures.near c.take_apart.ensures.nodes_made c.put_below.ensures.nodes_made
    (λ on spared. omega arith) (route_spared c.args.large _ (g.W.Ways.paths c.args.ways.now) _ _ c.spared_from-large.ensures all)

pub returns-clause-nodes_made : goal.returns-clause-nodes_made
returns-clause-nodes_made g t c = λ all.
    let w = on_way g t (goal.at.returns-clause-nodes_made g t c).After-side_of-side in
    let b = back g t (goal.at.returns-clause-nodes_made g t c).After-by_side-left in
    route_nodes_made _ _ _ _ _ _ _ (fork_of c.in-Some.node) c.side_of-side.result c.args.steps.now
    c.take_apart.new.steps c.put_below.new.steps c.joined_and_rebuilt_if_due.new.steps w c.next-next.ensures
    c.by_side-near.ensures.near c.take_apart.ensures.nodes_made c.put_below.ensures.nodes_made
    (λ on spared. c.joined_and_rebuilt_if_due.ensures.nodes_made (subst (IsNotDue c.spared_from-large.result)
    (ap (with_near c.side_of-side.result (fork_of c.in-Some.node))
    (sym (c.in_ok-near.ensures.updated.unrebuilt on)) ∙ sym b) spared))
    (route_spared c.args.large _ (g.W.Ways.paths c.args.ways.now) _ _ c.spared_from-large.ensures all)
