use Rattle.std.proofs.Common.{arith}
use Rattle.std.proofs.lemmas.Result.{on_ok_weaker}
use Rattle.kd_frozen.proofs.Round.{all_parts, far_once, near_alone, near_once}
use Rattle.kd_frozen.proofs.search.+add_from.Goals as goal

pub add_from-requires : goal.add_from-requires
add_from-requires t c =
    let p = c.in-Some.ensures in
    (omega (arith, p.shorter), (c.requires.bound, (p.near_parted, near_once c.args.cells.now c.args.query.now.point c.in-Some.parts p c.requires.distinct)))

pub add_from-requires-2 : goal.add_from-requires-2
add_from-requires-2 t c =
    let p = c.in-Some.ensures in
    (omega (arith, p.shorter), (c.in_ok-add.ensures.bound, (p.far_parted, far_once c.args.cells.now c.args.query.now.point c.in-Some.parts p c.requires.distinct)))

pub returns-then-found-gap2-clause-found : goal.returns-then-found-gap2-clause-found
returns-then-found-gap2-clause-found t c =
    let query = c.args.query.now in
    near_alone query.k query.point query.within c.args.cells.now c.in-Some.parts c.args.found.now.hits c.add_from.new.found.hits c.add_from.new.found.bound c.gap2-gap2.result
    c.in-Some.ensures c.requires.distinct c.in_ok-add_from.ensures.bound c.if-found-gap2.true (omega arith) c.gap2-gap2.ensures c.in_ok-add_from.ensures.found

pub returns-clause-found : goal.returns-clause-found
returns-clause-found t c =
    let query = c.args.query.now in
    on_ok_weaker c.add_from-2.result
    (all_parts query.k query.point query.within c.args.cells.now c.in-Some.parts c.args.found.now.hits _ _ _
    c.in-Some.ensures c.requires.distinct c.in_ok-add_from.ensures.found c.in_ok-add.ensures.found)
    c.add_from-2.ensures.found
