use Rattle.std.proofs.Common.{ap, arith}
use Rattle.kd_tree.specs.Shape.{levels}
use Rattle.kd_update.proofs.StandsFor.{replaced_levels}
use Rattle.kd_update.proofs.replacing.replace.+levels_with.Goals as goal

pub returns-in-Left-clause-low : goal.returns-in-Left-clause-low
returns-in-Left-clause-low t c =
    let all = ap levels c.in-Some-top.ensures.some in
    let below = replaced_levels c.in-Some.rest.now c.args.with.now c.in-Some-top.top.left.now in
    omega (arith, all, below, c.levels_with.ensures.value, c.levels.ensures.value, c.levels.ensures.low, c.levels-2.ensures.value, c.levels-2.ensures.low, c.levels-in-Left.ensures.value)

pub returns-in-Right-clause-low : goal.returns-in-Right-clause-low
returns-in-Right-clause-low t c =
    let all = ap levels c.in-Some-top.ensures.some in
    let below = replaced_levels c.in-Some.rest.now c.args.with.now c.in-Some-top.top.right.now in
    omega (
      arith,
      all,
      below,
      c.levels_with-in-Right.ensures.value,
      c.levels.ensures.value,
      c.levels.ensures.low,
      c.levels-2.ensures.value,
      c.levels-2.ensures.low,
      c.levels-in-Right.ensures.value,
      c.max-in-Right.ensures,
    )
