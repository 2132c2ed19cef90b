use Rattle.std.proofs.Common.{refl, arith}
use Rattle.std.proofs.lemmas.Result.{on_ok_weaker}
use Rattle.kd_frozen.proofs.Laid.{laid, laid_leaf, side_lengths}
use Rattle.kd_frozen.proofs.lay.+lay.Goals as goal

pub returns-then-cells-le-LEAF : goal.returns-then-cells-le-LEAF
returns-then-cells-le-LEAF t c = laid_leaf c.args.cells.now c.args.laid.now.items c.extend_from_slice.new.self.items (omega arith) c.in_ok-extend_from_slice.ensures.items

pub lay-requires : goal.lay-requires
lay-requires t c = omega (arith, side_lengths _ _ _ _ c.cut-left.ensures.same)

pub lay-requires-2 : goal.lay-requires-2
lay-requires-2 t c = omega (arith, side_lengths _ _ _ _ c.cut-left.ensures.same)

pub returns : goal.returns
returns t c =
    let s = c.cut-left in
    on_ok_weaker c.lay-2.result
    (laid c.args.cells.now s.result.0.now s.result.2.now c.longest_axis-axis.result c.share_to-share.result s.result.1.now _ c.args.laid.now.items
    c.push.new.self.items c.lay.new.laid.items _ s.ensures refl c.in_ok-push.ensures.items c.in_ok-lay.ensures)
    c.lay-2.ensures
