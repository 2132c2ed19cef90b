use Rattle.std.proofs.Common.{[], ◌∷◌, ◌≤◌, arith}
use Rattle.std.proofs.lemmas.List.Elements.{All-cons, All-nil}
use Rattle.point_geom.specs.Distances.{dist2}
use Rattle.map_items.specs.declared.item.Item.{Item}
use Rattle.kd_search.specs.Points.{AreAway}
use Rattle.kd_frozen.specs.Cells.{item_of}
use Rattle.kd_frozen.proofs.CloseBounds.{close_left_out}
use Rattle.kd_frozen.proofs.close.add.Goals as goal

pub returns-then-bound-dist2-clause-found : goal.returns-then-bound-dist2-clause-found
returns-then-bound-dist2-clause-found c =
    let query = c.args.query.now in
    let item = item_of c.args.cell.now in
    let gap = c.close_dist2-dist2.result in
    let Far = λ (i : Item). gap ≤ dist2 query.point i.point in
    let away : AreAway gap query.point (item ∷ []) = All-cons Far item [] (omega (arith, c.close_dist2-dist2.ensures)) (All-nil Far) in
    close_left_out query.k query.point query.within c.args.list.now c.args.bound gap (item ∷ []) c.requires.bound c.if-bound-dist2.true (omega arith) away
