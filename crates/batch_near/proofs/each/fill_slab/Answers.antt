use Rattle.std.proofs.Common.{◌≡◌, ◌<◌, length, arith, rules}
use Rattle.batch_near.specs.Search.{found_by}
use Rattle.batch_near.specs.Slabs.{slab_of}
use Rattle.batch_near.proofs.Slabs.{put_before, put_next, skip_next, all_filled}
use Rattle.batch_near.proofs.each.fill_slab.Goals.{then-slab_of-slab+in-Heap-1, then-slab_of-slab+in-Inline-1, else-slab_of-slab}
use Rattle.batch_near.proofs.each.fill_slab.Goals as goal

pub loop-place-init : goal.loop-place-init
loop-place-init c = (c.requires.filled, λ i d l s. absurd (omega (arith, l)))

pub loop-place-preserved : goal.loop-place-preserved
loop-place-preserved c =
    let f = found_by c.args.search in
    let qs = c.args.queries.now in
    let lists = c.loop-place.lists in
    let slab = c.args.slab in
    let n = c.loop-place.place in
    let q = c.index-queries-place.result in
    let lt = c.loop-place-test.true in
    let room : n < length lists = omega (arith, lt, c.loop-place.auto.lists, c.requires.len) in
    let read = c.index-queries-place.is in
    let before = c.loop-place.invariant.0 in
    let to = c.loop-place.invariant.1 in
    elim c.if-slab_of-slab.branch [
      | then-slab_of-slab+in-Heap-1 w ↦
          let here : slab_of q ≡ slab = omega (arith, c.slab_of.ensures, w.if-slab_of-slab.true) in
          rw w.lists-is (put_before f qs lists slab n q w.unwrap.result lt read here before, put_next f qs lists slab n q w.unwrap.result room lt read (search rules) to)
      | then-slab_of-slab+in-Inline-1 w ↦
          let here : slab_of q ≡ slab = omega (arith, c.slab_of.ensures, w.if-slab_of-slab.true) in
          rw w.lists-is (put_before f qs lists slab n q w.unwrap.result lt read here before, put_next f qs lists slab n q w.unwrap.result room lt read (search rules) to)
      | else-slab_of-slab w ↦
          rw w.lists-is (before, skip_next f qs lists slab n q lt read (λ e. omega (arith, e, c.slab_of.ensures, w.if-slab_of-slab.false)) to)
    ]

pub returns : goal.returns
returns c =
    let f = found_by c.args.search in
    all_filled f c.args.queries.now c.loop-place.lists c.args.slab c.loop-place.place c.loop-place-test.false c.loop-place.invariant.0 c.loop-place.invariant.1
