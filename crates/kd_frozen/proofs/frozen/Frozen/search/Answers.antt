use Rattle.std.proofs.Common.{◌≡◌, ◌∙◌, ap, subst, sym, List}
use Rattle.std.proofs.lemmas.Result.{on_ok_weaker}
use Rattle.map_items.specs.declared.item.Item.{Item}
use Rattle.map_fold.specs.Answers.{nearest}
use Rattle.map_fold.specs.Nearest.{AreNearest}
use Rattle.kd_tree.specs.Contents.{AreDistinct, by_number}
use Rattle.kd_search.specs.Points.{AreIn}
use Rattle.kd_frozen.specs.declared.cell.Cell.{Cell}
use Rattle.kd_frozen.specs.Cells.{items_of}
use Rattle.kd_frozen.proofs.Asked.{are_nearest, from_none}
use Rattle.kd_frozen.proofs.Hulls.{hull_close}
use Rattle.kd_frozen.proofs.frozen.Frozen.search.Goals as goal
use Rattle.kd_frozen.proofs.frozen.Frozen.search.Goals.{After-as_slice-cells}

once : (c : After-as_slice-cells) → AreDistinct (items_of c.as_slice-cells.result.now)
once c = subst (λ (z : List Cell). AreDistinct (items_of z)) (sym c.as_slice-cells.ensures.value) c.self.invariant.1

seen : (c : After-as_slice-cells) → by_number (items_of c.as_slice-cells.result.now) ≡ c.args.self.now
seen c = ap (λ (z : List Cell). by_number (items_of z)) c.as_slice-cells.ensures.value ∙ c.self.view_is

pub search_close-requires-clause-close : goal.search_close-requires-clause-close
search_close-requires-clause-close c =
    let inside = subst (λ (z : List Cell). AreIn c.self.inside.hull (items_of z)) (sym c.as_slice-cells.ensures.value) c.self.invariant.2 in
    hull_close c.self.inside.hull c.args.query.now.point (items_of c.as_slice-cells.result.now) (c.is_close.ensures c.if-is_close.true) inside

pub returns-then-is_close-clause-found : goal.returns-then-is_close-clause-found
returns-then-is_close-clause-found c =
    let query = c.args.query.now in
    let s = (goal.at.returns-then-is_close-clause-found c).After-as_slice-cells in
    from_none query.k query.point query.within (items_of c.as_slice-cells.result.now) c.args.found.now.hits c.search_close.new.found.hits (once s) c.requires.none c.search_close.ensures.found
    ∙ ap (λ (m : List Item). nearest m query.k query.point query.within) (seen s)

pub returns-then-is_close-clause-nearest : goal.returns-then-is_close-clause-nearest
returns-then-is_close-clause-nearest c =
    let query = c.args.query.now in
    let s = (goal.at.returns-then-is_close-clause-nearest c).After-as_slice-cells in
    let m = items_of c.as_slice-cells.result.now in
    let hits = c.search_close.new.found.hits in
    subst (λ (z : List Item). AreNearest z query.k query.point query.within hits) (seen s)
    (are_nearest query.k query.point query.within m hits (once s) (from_none query.k query.point query.within m c.args.found.now.hits hits (once s) c.requires.none c.search_close.ensures.found))

pub returns-clause-found : goal.returns-clause-found
returns-clause-found c =
    let query = c.args.query.now in
    let s = (goal.at.returns-clause-found c).After-as_slice-cells in
    on_ok_weaker c.add_from.result
    (λ e. from_none query.k query.point query.within (items_of c.as_slice-cells.result.now) c.args.found.now.hits
    c.add_from.new.found.hits (once s) c.requires.none e
    ∙ ap (λ (m : List Item). nearest m query.k query.point query.within) (seen s))
    c.add_from.ensures.found

pub returns-clause-nearest : goal.returns-clause-nearest
returns-clause-nearest c =
    let query = c.args.query.now in
    let s = (goal.at.returns-clause-nearest c).After-as_slice-cells in
    let m = items_of c.as_slice-cells.result.now in
    let hits = c.add_from.new.found.hits in
    on_ok_weaker c.add_from.result
    (λ e. subst (λ (z : List Item). AreNearest z query.k query.point query.within hits) (seen s)
    (are_nearest query.k query.point query.within m hits (once s) (from_none query.k query.point query.within m c.args.found.now.hits hits (once s) c.requires.none e)))
    c.add_from.ensures.found
