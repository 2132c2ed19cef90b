use Rattle.std.proofs.Common.{◌≡◌, arith, drop, length, ◌+◌, ◌∷◌}
use Rattle.map_items.proofs.Numbered.{put-above, contents_push, drop-at}
use Rattle.map_fold.proofs.plain_map.PlainMap.add.Goals as goal

pub loop-point-preserved : goal.loop-point-preserved
loop-point-preserved c =
    let p = c.point-item.result in
    let next = c.loop-point.next in
    let numbered = c.loop-point.invariant.numbered in
    let cut : drop c.loop-point.point-index c.args.points.now ≡ p ∷ drop (c.loop-point.point-index + 1) c.args.points.now =
    drop-at c.args.points.now _ c.loop-point.point-index p (omega arith) (rw c.as_slice-point-items.ensures at c.loop-point-test.true) (rw c.as_slice-point-items.ensures at c.point-item.is) in
    let shorter : length (drop c.loop-point.point-index c.args.points.now) ≡ length (drop (c.loop-point.point-index + 1) c.args.points.now) + 1 = rw cut (omega arith) in
    record {
      numbered = rw (c.in_ok-push.ensures.items, c.live.ensures) (contents_push 0 next _ p (omega arith) numbered);
      room = omega arith;
      rest = rw (c.in_ok-push.ensures.items, c.live.ensures, ← put-above 0 next c.loop-point.items.items p numbered) (rw cut at c.loop-point.invariant.rest);
    }
