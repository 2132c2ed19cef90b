use Rattle.std.proofs.Common.{◌≡◌, ◌∙◌, ap, subst, sym, List}
use Rattle.map_items.specs.declared.item.Item.{Item}
use Rattle.map_fold.specs.Answers.{nearest}
use Rattle.map_fold.specs.Nearest.{AreNearest}
use Rattle.kd_tree.specs.Contents.{AreDistinct, by_number}
use Rattle.kd_search.specs.Points.{AreIn}
use Rattle.kd_frozen.specs.declared.cell.Cell.{Cell}
use Rattle.kd_frozen.specs.Cells.{items_of}
use Rattle.kd_frozen.proofs.Asked.{are_nearest, from_none}
use Rattle.kd_frozen.proofs.Hulls.{hull_close}
use Rattle.kd_frozen.proofs.frozen.Frozen.nearest_few.Goals as goal
use Rattle.kd_frozen.proofs.frozen.Frozen.nearest_few.Goals.{After-fill-bound}

once : (c : After-fill-bound) → AreDistinct (items_of c.as_slice-cells.result.now)
once c = subst (λ (z : List Cell). AreDistinct (items_of z)) (sym c.as_slice-cells.ensures.value) c.self.invariant.1

seen : (c : After-fill-bound) → by_number (items_of c.as_slice-cells.result.now) ≡ c.args.self.now
seen c = ap (λ (z : List Cell). by_number (items_of z)) c.as_slice-cells.ensures.value ∙ c.self.view_is

pub fill-bound-requires-clause-close : goal.fill-bound-requires-clause-close
fill-bound-requires-clause-close c =
    let inside = subst (λ (z : List Cell). AreIn c.self.inside.hull (items_of z)) (sym c.as_slice-cells.ensures.value) c.self.invariant.2 in
    hull_close c.self.inside.hull c.new-query.result.point (items_of c.as_slice-cells.result.now) (c.is_close.ensures c.if-is_close.true) inside

-- by number, what is found is the nearest
found : (c : After-fill-bound) → c.fill-bound.new.list ≡ nearest (by_number (items_of c.as_slice-cells.result.now)) c.args.k c.args.q.now c.args.within
found c =
    let is = c.new-query.ensures in
    from_none c.args.k c.args.q.now c.args.within (items_of c.as_slice-cells.result.now) c.args.hits.now c.fill-bound.new.list (once c) c.requires.none
    (rw (is.k, is.point, is.within) at c.fill-bound.ensures.found)

pub returns-then-is_close-clause-found : goal.returns-then-is_close-clause-found
returns-then-is_close-clause-found c _ =
    let s = (goal.at.returns-then-is_close-clause-found c).After-fill-bound in
    found s ∙ ap (λ (m : List Item). nearest m c.args.k c.args.q.now c.args.within) (seen s)

pub returns-then-is_close-clause-nearest : goal.returns-then-is_close-clause-nearest
returns-then-is_close-clause-nearest c _ =
    let s = (goal.at.returns-then-is_close-clause-nearest c).After-fill-bound in
    let hits = c.fill-bound.new.list in
    subst (λ (z : List Item). AreNearest z c.args.k c.args.q.now c.args.within hits) (seen s)
    (are_nearest c.args.k c.args.q.now c.args.within (items_of c.as_slice-cells.result.now) hits (once s) (found s))
