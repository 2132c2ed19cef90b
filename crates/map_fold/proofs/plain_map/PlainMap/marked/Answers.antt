use Rattle.std.proofs.Common.{◌≡◌, ◌∷◌, ◌+◌, ◌∙◌, arith, drop}
use Rattle.map_items.specs.Contents.{in_box, mark}
use Rattle.map_items.proofs.Numbered.{contents_mark, drop-at, mark-within}
use Rattle.map_fold.proofs.plain_map.PlainMap.marked.Goals as goal

pub loop-cuboid-preserved : goal.loop-cuboid-preserved
loop-cuboid-preserved c =
    let box = c.cuboid-item.result in
    let cut : drop c.loop-cuboid.cuboid-index c.args.boxes.now ≡ box ∷ drop (c.loop-cuboid.cuboid-index + 1) c.args.boxes.now =
    drop-at c.args.boxes.now _ c.loop-cuboid.cuboid-index box (omega arith) (rw c.as_slice-cuboid-items.ensures at c.loop-cuboid-test.true) (rw c.as_slice-cuboid-items.ensures at c.cuboid-item.is) in
    let marked : c.mark_items.new.items.items ≡ mark c.loop-cuboid.items.items (in_box box) c.args.tag = c.mark_items.ensures ∙ mark-within c.within.result box _ _ c.within.ensures in
    record {
      held = rw marked (contents_mark 0 _ c.loop-cuboid.items.items (in_box box) c.args.tag c.loop-cuboid.invariant.held);
      rest = rw marked (rw cut at c.loop-cuboid.invariant.rest);
    }
