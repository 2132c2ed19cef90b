use Rattle.std.proofs.Common.{◌≤◌, [], ◌∷◌, Some, refl, sym, subst, arith}
use Rattle.std.proofs.lemmas.Result.{on_ok_weaker}
use Rattle.std.proofs.lemmas.List.Elements.{All-cons, All-nil}
use Rattle.point_geom.specs.Distances.{dist2}
use Rattle.map_items.specs.declared.item.Item.{Item}
use Rattle.map_items.specs.Contents.{relabelled}
use Rattle.kd_tree.specs.Walk.{walk}
use Rattle.kd_search.specs.Points.{AreAway}
use Rattle.kd_search.proofs.Walks.{walk_in_extent}
use Rattle.kd_search.proofs.Tops.{split}
use Rattle.kd_search.proofs.Offered.{near_first}
use Rattle.kd_search.proofs.Others.{walk_distinct}
use Rattle.kd_search.proofs.Bounds.{in_away, left_out}
use Rattle.kd_search.proofs.near.+near.Goals as goal

pub add_from-returns-then-found-dist2-clause-found : goal.add_from-returns-then-found-dist2-clause-found
add_from-returns-then-found-dist2-clause-found t c =
    let query = c.args.query.now in
    let items = walk c.args.pending c.args.tree.now in
    let away = in_away c.in-Some.extent query.point items (walk_in_extent (Some c.in-Some.extent) c.args.pending c.args.tree.now c.in-Some.ensures.value) in
    left_out query.k query.point query.within c.args.found.now.hits c.args.found.now.bound c.dist2.result items
    c.requires c.if-found-dist2.true (omega arith)
    (subst (λ d. AreAway d query.point items) (sym c.dist2.ensures.value) away)

pub add_under-returns-then-found-sides-clause-found : goal.add_under-returns-then-found-sides-clause-found
add_under-returns-then-found-sides-clause-found t c =
    let query = c.args.query.now in
    let pending = c.args.pending in
    let top = c.in-Some.top in
    let sides = c.of-sides.result in
    let below = c.then-below.result in
    let item = relabelled pending top.item in
    let is = split c.args.tree.now pending top query.point sides item below c.in-Some.ensures.some c.size-size.ensures.sound c.of-sides.ensures refl c.then-below.ensures.value in
    let found = c.add_from.new.found in
    let bound = c.in_ok-add_from.ensures.bound in
    let Far = λ (i : Item). sides.gap ≤ dist2 query.point i.point in
    let own : AreAway sides.gap query.point (item ∷ []) = All-cons Far item [] is.item (All-nil Far) in
    near_first query.k query.point query.within item (walk below sides.near.now) (walk below sides.far.now) is.children
    (walk pending c.args.tree.now) c.args.found.now.hits found.hits found.hits found.hits
    (walk_distinct pending c.args.tree.now c.size-size.ensures.sound) is.items is.turned c.in_ok-add_from.ensures.found
    (left_out query.k query.point query.within found.hits found.bound sides.gap (item ∷ []) bound c.if-found-sides.true (omega arith) own)
    (left_out query.k query.point query.within found.hits found.bound sides.gap (walk below sides.far.now) bound c.if-found-sides.true (omega arith) is.far)

pub add_under-returns-clause-found : goal.add_under-returns-clause-found
add_under-returns-clause-found t c =
    let query = c.args.query.now in
    let pending = c.args.pending in
    let top = c.in-Some.top in
    let sides = c.of-sides.result in
    let below = c.then-below.result in
    let item = c.relabelled-item.result in
    let is = split c.args.tree.now pending top query.point sides item below c.in-Some.ensures.some c.size-size.ensures.sound c.of-sides.ensures c.relabelled-item.ensures c.then-below.ensures.value in
    on_ok_weaker c.add_from-2.result
    (near_first query.k query.point query.within item (walk below sides.near.now) (walk below sides.far.now) is.children (walk pending c.args.tree.now) c.args.found.now.hits _ _ _
    (walk_distinct pending c.args.tree.now c.size-size.ensures.sound) is.items is.turned c.in_ok-add_from.ensures.found c.in_ok-add.ensures.found)
    c.add_from-2.ensures.found
