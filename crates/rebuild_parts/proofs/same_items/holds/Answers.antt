use Rattle.std.proofs.Common.{◌≡◌, arith, length, ap}
use Rattle.kd_tree.specs.Contents.{contents}
use Rattle.kd_tree.proofs.Actions.{sound_few}
use Rattle.rebuild_parts.proofs.SameItems.{held_same, length-contents, same_held}
use Rattle.rebuild_parts.proofs.same_items.holds.Goals as goal

pub overflow_add-count : goal.overflow_add-count
overflow_add-count c = let k = c.counts-counts.ensures in omega (arith, k.total, sound_few c.args.tree.now k.sound)

pub returns-then-count-items : goal.returns-then-count-items
returns-then-count-items c =
    let k = c.counts-counts.ensures in
    let all = length-contents c.args.tree.now in
    let other = c.if-count-items.true in
    ((λ e. absurd cc), λ same. absurd (omega (arith, k.live, k.suspended, all, ap length same, other)))

pub returns : goal.returns
returns c =
    let k = c.counts-counts.ensures in
    let t = c.args.tree.now in
    let m = c.args.items.now in
    let all = length-contents t in
    let equal : length (contents t) ≡ length m = omega (arith, k.live, k.suspended, all, c.if-count-items.false) in
    ((λ e. held_same 4194304 t m k.sound c.requires (c.are_among.ensures.0 e) equal), λ same. c.are_among.ensures.1 (same_held t m same))
