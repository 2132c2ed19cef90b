use Rattle.std.proofs.Common.{arith, leb-true, le-leb}
use Rattle.kd_mark.proofs.Large.{at_nodes}
use Rattle.kd_update.proofs.StandsFor.{replaced_nodes}
use Rattle.kd_update.proofs.replacing.replace.has_room.Goals as goal

pub overflow_sub-size : goal.overflow_sub-size
overflow_sub-size c = omega (arith, at_nodes c.args.path.now c.args.tree.now c.in-Some.node.now c.in-Some.ensures.some, c.size.ensures.value, c.size-2.ensures.value)

pub returns-then-size-gt-MAX_NODES : goal.returns-then-size-gt-MAX_NODES
returns-then-size-gt-MAX_NODES c =
    let all = replaced_nodes c.args.path.now c.args.with.now c.args.tree.now c.in-Some.node.now c.in-Some.ensures.some in (
      (λ e. absurd cc),
      (λ k. absurd (omega (
        arith,
        k.few,
        all,
        at_nodes c.args.path.now c.args.tree.now c.in-Some.node.now c.in-Some.ensures.some,
        c.size.ensures.value,
        c.size-2.ensures.value,
        c.size-3.ensures.value,
        c.if-size-gt-MAX_NODES.true,
      ))),
    )

pub returns : goal.returns
returns c =
    let all = replaced_nodes c.args.path.now c.args.with.now c.args.tree.now c.in-Some.node.now c.in-Some.ensures.some in
    let deep = rw c.as_slice.ensures.value at c.levels_with.ensures.value in (
      (λ e. record {
        low = omega (arith, leb-true c.levels_with.result 512 e, deep);
        few =
            omega (
              arith,
              all,
              at_nodes c.args.path.now c.args.tree.now c.in-Some.node.now c.in-Some.ensures.some,
              c.size.ensures.value,
              c.size-2.ensures.value,
              c.size-3.ensures.value,
              c.if-size-gt-MAX_NODES.false,
            );
      }),
      (λ k. le-leb c.levels_with.result 512 (omega (arith, deep, k.low))),
    )
