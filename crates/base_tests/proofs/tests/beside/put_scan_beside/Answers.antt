use Rattle.std.proofs.Common.{◌++◌, List, ap, length, subst, sym, ◌∙◌}
use Rattle.map_items.specs.declared.item.Item.{Item}
use Rattle.kd_tree.specs.Shape.{numbers}
use Rattle.kd_tree.specs.Contents.{contents}
use Rattle.kd_mark.specs.Refresh.{AreAmong}
use Rattle.kd_update.specs.Scan.{MayJoin, numbers_in}
use Rattle.kd_update.proofs.Joins.{join_next, live_from-length}
use Rattle.kd_update.proofs.Numbers.{below_points, held_below}
use Rattle.base_tests.proofs.tests.beside.put_scan_beside.Goals as goal

pub put_all_watched-requires-clause-fit : goal.put_all_watched-requires-clause-fit
put_all_watched-requires-clause-fit g c =
    let same = sym (c.as_slice.ensures.value ∙ c.in-Ok.ensures.items) in
    let m = contents c.args.at.map.tree in
    subst (λ (xs : List Item). MayJoin m xs) same (join_next c.args.at.map.next m c.args.points.now
    (held_below c.args.at.map.next c.args.at.map.tree c.size-size.ensures.sound c.args.at.map.below)
    c.requires.next)

pub put_all_watched-requires-clause-small : goal.put_all_watched-requires-clause-small
put_all_watched-requires-clause-small g c =
    let many = ap length (c.as_slice.ensures.value ∙ c.in-Ok.ensures.items) ∙ live_from-length c.args.at.map.next c.args.points.now in
    rw many c.requires.small

pub put_all_watched-requires-clause-short : goal.put_all_watched-requires-clause-short
put_all_watched-requires-clause-short g c =
    let many = ap length (c.as_slice.ensures.value ∙ c.in-Ok.ensures.items) ∙ live_from-length c.args.at.map.next c.args.points.now in
    rw many c.requires.short

pub put_all_watched-requires-clause-few : goal.put_all_watched-requires-clause-few
put_all_watched-requires-clause-few g c =
    let many = ap length (c.as_slice.ensures.value ∙ c.in-Ok.ensures.items) ∙ live_from-length c.args.at.map.next c.args.points.now in
    rw many c.requires.few

pub put_all_watched-requires-clause-room : goal.put_all_watched-requires-clause-room
put_all_watched-requires-clause-room g c =
    let many = ap length (c.as_slice.ensures.value ∙ c.in-Ok.ensures.items) ∙ live_from-length c.args.at.map.next c.args.points.now in
    rw many c.requires.room

pub invariant_of-map : goal.invariant_of-map
invariant_of-map g c =
    let s = c.args.at.map.tree in
    let t = c.in-Ok-put_all_watched.tree in
    let same = c.as_slice.ensures.value ∙ c.in-Ok.ensures.items in
    let among = subst (λ (xs : List Item). AreAmong (numbers t) (numbers_in xs ++ numbers s)) same c.in-Ok-put_all_watched.ensures.numbers in
    record { below = below_points c.args.at.map.next c.args.points.now (numbers s) (numbers t) among c.args.at.map.below }
