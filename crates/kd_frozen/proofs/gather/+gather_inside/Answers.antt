use Rattle.std.proofs.Common.{◌∙◌, ◌++◌, ap, sym, append-nil, Some}
use Rattle.std.proofs.lemmas.Result.{on_ok_weaker}
use Rattle.map_fold.specs.Answers.{inside_all}
use Rattle.kd_tree.specs.Walk.{walk}
use Rattle.kd_search.proofs.Boxed.{inside_missed, inside-top}
use Rattle.kd_search.proofs.Tops.{walk_top}
use Rattle.kd_search.proofs.Walks.{walk_in_extent}
use Rattle.kd_frozen.specs.Cells.{items_of}
use Rattle.kd_frozen.proofs.Live.{gathered}
use Rattle.kd_frozen.proofs.gather.+gather_inside.Goals as goal

pub returns-then-not-meets : goal.returns-then-not-meets
returns-then-not-meets t c =
    let e = c.in-Some.extent in
    let items = walk c.args.pending c.args.tree.now in
    let missed = inside_missed c.args.c.now e items (walk_in_extent (Some e) c.args.pending c.args.tree.now c.in-Some.ensures.value) (sym c.meets.ensures.value ∙ c.if-not-meets.true) in
    let old = items_of c.args.cells.now.items in
    sym (ap (λ z. old ++ z) missed ∙ append-nil old)

pub returns : goal.returns
returns t c =
    let top = c.in-Some-top.top in
    let i = c.relabelled.result in
    let below = c.then-below.result in
    let left = walk below top.left.now in
    let right = walk below top.right.now in
    let all =
    ap (λ m. inside_all m c.args.c.now) (walk_top c.args.tree.now c.args.pending top i below c.in-Some-top.ensures.some c.relabelled.ensures c.then-below.ensures.value)
    ∙ inside-top c.args.c.now i left right in
    on_ok_weaker c.gather_inside-2.result
    (gathered _ _ (inside_all left c.args.c.now) (inside_all right c.args.c.now) _ _ _ _ all c.in_ok-push_inside.ensures c.in_ok-gather_inside.ensures)
    c.gather_inside-2.ensures
