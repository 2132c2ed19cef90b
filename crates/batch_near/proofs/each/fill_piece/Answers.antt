use Rattle.std.proofs.Common.{◌≡◌, ◌≤◌, length, ◌∙◌, arith}
use Rattle.batch_near.specs.Search.{found_by}
use Rattle.batch_near.proofs.Slabs.{filled-map}
use Rattle.batch_near.proofs.each.fill_piece.Goals as goal

pub loop-slab-init : goal.loop-slab-init
loop-slab-init c i d l s = absurd (omega (arith, s))

pub returns : goal.returns
returns c =
    let all : 32 ≤ c.loop-slab.slab = omega (arith, c.loop-slab-test.false) in
    let len : length c.loop-slab.lists ≡ length c.args.queries.now = c.loop-slab.auto.lists ∙ c.requires.len in
    filled-map (found_by c.args.search) c.args.queries.now c.loop-slab.lists c.loop-slab.slab all len c.loop-slab.invariant
