use Rattle.std.proofs.Common.{[], ◌∷◌, ◌≤◌, arith}
use Rattle.std.proofs.lemmas.List.Elements.{All-cons, All-nil}
use Rattle.point_geom.specs.Distances.{dist2}
use Rattle.map_items.specs.declared.item.Item.{Item}
use Rattle.map_items.specs.Contents.{live_at}
use Rattle.kd_search.specs.Points.{AreAway}
use Rattle.kd_search.proofs.Bounds.{left_out}
use Rattle.kd_search.proofs.near.Query.offer.Goals as goal

pub returns-then-found-gap-clause-found : goal.returns-then-found-gap-clause-found
returns-then-found-gap-clause-found c =
    let query = c.args.self.now in
    let item = live_at c.args.number c.args.point.now in
    let gap = c.dist2-gap.result in
    let Far = λ (i : Item). gap ≤ dist2 query.point i.point in
    let away : AreAway gap query.point (item ∷ []) = All-cons Far item [] (omega (arith, c.dist2-gap.ensures.value)) (All-nil Far) in
    left_out query.k query.point query.within c.args.found.now.hits c.args.found.now.bound gap (item ∷ []) c.requires c.if-found-gap.true (omega (arith, c.dist2-gap.ensures.bound)) away
