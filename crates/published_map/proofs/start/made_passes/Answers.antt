use Rattle.std.proofs.Common.{◌∷◌, [], length, arith, ap, ◌∙◌, length-append}
use Rattle.published_map.proofs.Firsts.{made_snoc}
use Rattle.published_map.proofs.start.made_passes.Goals as goal

pub loop-index-preserved : goal.loop-index-preserved
loop-index-preserved g c =
    let i = c.loop-index.invariant in
    let s = c.split_off.ensures in
    let items = c.in-Ok.ensures.items in
    record {
      parts = omega (arith, i.parts, s.parts_left);
      amount = omega (arith, i.amount, s.amount_left);
      count = ap length items ∙ omega (arith, length-append c.loop-index.passes.items (c.in_ok-pass.pass ∷ []), i.count);
      made = made_snoc _ _ _ _ items c.in_ok-pass.ensures i.count i.made;
    }
