use Rattle.std.proofs.Common.{List, sym, subst}
use Rattle.std.proofs.lemmas.List.Elements.{All-cons}
use Rattle.point_geom.specs.Extents.{IsIn}
use Rattle.map_items.specs.declared.item.Item.{Item}
use Rattle.kd_search.specs.Points.{AreIn}
use Rattle.kd_frozen.specs.declared.cell.Cell.{Cell}
use Rattle.kd_frozen.specs.Cells.{item_of, items_of}
use Rattle.kd_frozen.proofs.hull.hull_of.Goals as goal

pub returns : goal.returns
returns c =
    let hull = c.hull_with.result in
    let In = λ (i : Item). IsIn hull i.point in
    let first = c.in-Some.first.now in
    let rest = c.in-Some.rest.now in
    subst (λ (z : List Cell). AreIn hull (items_of z)) (sym c.in-Some.ensures.cases.0) (All-cons In (item_of first) (items_of rest) c.hull_with.ensures.first c.hull_with.ensures.rest)
