use Rattle.std.proofs.Common.{◌≡◌, drop}
use Rattle.map_items.specs.Contents.{AreContents}
use Rattle.map_items.specs.Fold.{mark_boxes}
use Rattle.map_fold.proofs.plain_map.PlainMap.marked.Given as goal

abbrev pub invariant-loop-cuboid : goal.invariant-loop-cuboid
invariant-loop-cuboid l = record {
  held : AreContents 0 l.next l.items.items;
  rest : mark_boxes l.tag (drop l.cuboid-index l.boxes) (record { items = l.items.items; next = l.next }) ≡ mark_boxes l.tag l.boxes l.fn.self;
}
