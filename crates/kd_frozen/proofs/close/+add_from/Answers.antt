use Rattle.std.proofs.Common.{arith}
use Rattle.kd_frozen.proofs.CloseBounds.{close_near_alone, far_close, near_close, top_close}
use Rattle.kd_frozen.proofs.Round.{all_parts, far_once, near_once}
use Rattle.kd_frozen.proofs.close.+add_from.Goals as goal

pub close_gap2-gap2-requires : goal.close_gap2-gap2-requires
close_gap2-gap2-requires t c =
    let p = c.in-Some.ensures in
    omega (arith, p.top, top_close c.args.cells.now c.args.query.now.point c.in-Some.parts p c.requires.close)

pub add_from-near_bound-requires : goal.add_from-near_bound-requires
add_from-near_bound-requires t c =
    let m = c.args.cells.now in
    let q = c.args.query.now.point in
    let p = c.in-Some.ensures in
    (omega (arith, p.shorter), (c.requires.k_to, (c.requires.bound, (p.near_parted, (near_once m q c.in-Some.parts p c.requires.distinct, near_close m q c.in-Some.parts p c.requires.close)))))

pub add-top_bound-requires : goal.add-top_bound-requires
add-top_bound-requires t c =
    record {
      k_to = c.requires.k_to;
      bound = c.add_from-near_bound.ensures.bound;
      close = top_close c.args.cells.now c.args.query.now.point c.in-Some.parts c.in-Some.ensures c.requires.close;
    }

pub add_from-requires : goal.add_from-requires
add_from-requires t c =
    let m = c.args.cells.now in
    let q = c.args.query.now.point in
    let p = c.in-Some.ensures in
    (omega (arith, p.shorter), (c.requires.k_to, (c.add-top_bound.ensures.bound, (p.far_parted, (far_once m q c.in-Some.parts p c.requires.distinct, far_close m q c.in-Some.parts p c.requires.close)))))

pub returns-then-near_bound-gap2-clause-found : goal.returns-then-near_bound-gap2-clause-found
returns-then-near_bound-gap2-clause-found t c =
    let query = c.args.query.now in
    close_near_alone query.k query.point query.within c.args.cells.now c.in-Some.parts c.args.list.now c.add_from-near_bound.new.list c.add_from-near_bound.result c.close_gap2-gap2.result
    c.in-Some.ensures c.requires.distinct c.add_from-near_bound.ensures.bound c.if-near_bound-gap2.true (omega arith) c.close_gap2-gap2.ensures c.add_from-near_bound.ensures.found

pub returns-clause-found : goal.returns-clause-found
returns-clause-found t c =
    let query = c.args.query.now in
    all_parts query.k query.point query.within c.args.cells.now c.in-Some.parts c.args.list.now _ _ _ c.in-Some.ensures c.requires.distinct c.add_from-near_bound.ensures.found c.add-top_bound.ensures.found c.add_from.ensures.found
