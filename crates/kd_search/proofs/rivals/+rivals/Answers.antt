use Rattle.std.proofs.Common.{Some, length, sym, ap, ◌∙◌, arith}
use Rattle.kd_tree.specs.Walk.{walk}
use Rattle.kd_search.specs.Best.{best_from}
use Rattle.kd_search.proofs.Walks.{walk_in_extent}
use Rattle.kd_search.proofs.Tops.{walk_top}
use Rattle.kd_search.proofs.Boxed.{inside_missed}
use Rattle.kd_search.proofs.Least.{best_in_turn}
use Rattle.kd_search.proofs.rivals.+rivals.Goals as goal

pub add_from-returns-else-meets-clause-best : goal.add_from-returns-else-meets-clause-best
add_from-returns-else-meets-clause-best t c =
    let extent = c.in-Some.extent in
    let items = walk c.args.pending c.args.tree.now in
    let inside = walk_in_extent (Some extent) c.args.pending c.args.tree.now c.in-Some.ensures.value in
    ap (best_from c.args.c.now c.args.found.now.best) (sym (inside_missed c.args.c.now extent items inside (sym c.meets.ensures.value ∙ c.if-meets.false)))

pub add_from-returns-else-meets-clause-count : goal.add_from-returns-else-meets-clause-count
add_from-returns-else-meets-clause-count t c =
    let extent = c.in-Some.extent in
    let items = walk c.args.pending c.args.tree.now in
    let inside = walk_in_extent (Some extent) c.args.pending c.args.tree.now c.in-Some.ensures.value in
    omega (arith, ap length (inside_missed c.args.c.now extent items inside (sym c.meets.ensures.value ∙ c.if-meets.false)))

pub add_under-returns-clause-best : goal.add_under-returns-clause-best
add_under-returns-clause-best t c =
    let pending = c.args.pending in
    let top = c.in-Some.top in
    let below = c.then-below.result in
    let item = c.relabelled-item.result in
    let whole = walk_top c.args.tree.now pending top item below c.in-Some.ensures.some c.relabelled-item.ensures c.then-below.ensures.value in
    best_in_turn c.args.c.now item (walk below top.left.now) (walk below top.right.now) (walk pending c.args.tree.now) c.args.found.now.best _ _ _
    whole c.add.ensures.best c.add_from.ensures.best c.add_from-2.ensures.best
