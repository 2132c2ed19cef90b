use Rattle.std.proofs.Common.{◌≡◌, ◌+◌, ◌++◌, ◌≤◌, ◌∙◌, List, ap, sym, subst, arith, length, IfOk}
use Rattle.std.proofs.lemmas.Result.{IfOk-weaker}
use Rattle.map_items.specs.declared.item.Item.{Item}
use Rattle.map_items.specs.Fold.{MapAt, add_points}
use Rattle.kd_tree.specs.Shape.{nodes, numbers}
use Rattle.kd_tree.specs.Contents.{contents}
use Rattle.kd_mark.specs.Refresh.{AreAmong}
use Rattle.kd_update.specs.Scan.{MayJoin, numbers_in, put_each}
use Rattle.kd_update.proofs.Joins.{add_points-put_each, join_next, live_from-length}
use Rattle.kd_update.proofs.scans.numbered.put_points.Goals as goal

pub put_all-requires : goal.put_all-requires
put_all-requires g c =
    let same = sym (c.as_slice.ensures.value ∙ c.in_ok-items.ensures.items) in
    let m = contents c.args.tree in
    record { fit = subst (λ (xs : List Item). MayJoin m xs) same (join_next c.args.first m c.args.points.now c.requires.held c.requires.few) }

pub returns-clause-added : goal.returns-clause-added
returns-clause-added g c =
    let same = c.as_slice.ensures.value ∙ c.in_ok-items.ensures.items in
    let m = contents c.args.tree in
    let end = c.args.first + length c.args.points.now in
    IfOk-weaker c.put_all.result _ (λ t. ◌≡◌ {A = MapAt} (record { items = contents t; next = end }) (add_points c.args.points.now (record { items = m; next = c.args.first })))
    (λ t e. ap (λ (xs : List Item). record { items = xs; next = end }) (e ∙ ap (put_each m) same) ∙ sym (add_points-put_each c.args.first m c.args.points.now)) c.put_all.ensures.contents

pub returns-clause-numbers : goal.returns-clause-numbers
returns-clause-numbers g c =
    let same = c.as_slice.ensures.value ∙ c.in_ok-items.ensures.items in
    subst (λ (xs : List Item). IfOk c.put_all.result (λ t. AreAmong (numbers t) (numbers_in xs ++ numbers c.args.tree))) same c.put_all.ensures.numbers

pub returns-clause-nodes : goal.returns-clause-nodes
returns-clause-nodes g c =
    let same = c.as_slice.ensures.value ∙ c.in_ok-items.ensures.items in
    IfOk-weaker c.put_all.result _ (λ t. nodes t ≤ nodes c.args.tree + length c.args.points.now)
    (λ t k. omega (arith, k, ap length same, live_from-length c.args.first c.args.points.now)) c.put_all.ensures.nodes
