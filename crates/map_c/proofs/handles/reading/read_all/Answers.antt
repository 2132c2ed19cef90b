use Rattle.std.proofs.Common.{arith, subst}
use Rattle.std.proofs.lemmas.Grind.{common_steps}
use Rattle.std.proofs.lemmas.List.Elements.{All-more}
use Rattle.map_c.proofs.handles.reading.read_all.Goals as goal

pub loop-one-preserved : goal.loop-one-preserved
loop-one-preserved g c = (
  grind (arith, common_steps),
  All-more g.T.FromC.is_right c.args.all.now c.loop-one.one-index c.one-item.result c.loop-one-test.true c.loop-one.invariant.1
      (subst g.T.FromC.is_right c.one-item.is c.in_ok-from_c.ensures.range),
)
