use Rattle.std.proofs.Common.{◌≡◌, ◌+◌, [], ◌∷◌, List, drop, sym, subst, arith}
use Rattle.std.proofs.lemmas.List.{drop_all}
use Rattle.map_items.specs.declared.item.Item.{Item}
use Rattle.map_items.proofs.Numbered.{drop-at}
use Rattle.kd_tree.specs.Contents.{contents}
use Rattle.kd_update.specs.Scan.{IsPut, MayJoin}
use Rattle.kd_update.proofs.Joins.{join_first, join_rest, put_none, put_then}
use Rattle.kd_update.proofs.scans.scan.put_singly.Goals as goal

pub put_one-requires : goal.put_one-requires
put_one-requires g c =
    let i = c.loop-item.item-index in
    let x = c.item-item.result in
    let rest = drop (i + 1) c.args.items.now in
    let cut : drop i c.args.items.now ≡ x ∷ rest = drop-at c.args.items.now _ i x (omega arith) c.loop-item-test.true c.item-item.is in
    join_first (contents c.loop-item.tree) (x ∷ []) rest (subst (λ (xs : List Item). MayJoin (contents c.loop-item.tree) xs) cut c.loop-item.invariant.fit)

pub loop-item-preserved : goal.loop-item-preserved
loop-item-preserved g c =
    let i = c.loop-item.item-index in
    let x = c.item-item.result in
    let rest = drop (i + 1) c.args.items.now in
    let s = c.loop-item.tree in
    let cut : drop i c.args.items.now ≡ x ∷ rest = drop-at c.args.items.now _ i x (omega arith) c.loop-item-test.true c.item-item.is in
    record {
      fit = join_rest s c.in_ok-tree.tree (x ∷ []) rest (subst (λ (xs : List Item). MayJoin (contents s) xs) cut c.loop-item.invariant.fit) c.in_ok-tree.ensures.held;
      rest = λ u k. c.loop-item.invariant.rest u (subst (λ (xs : List Item). IsPut c.args.large s xs u) (sym cut) (put_then c.args.large s _ u (x ∷ []) rest c.in_ok-tree.ensures k));
    }

pub returns : goal.returns
returns g c =
    let s = c.loop-item.tree in
    let none = drop_all c.loop-item.item-index c.args.items.now c.loop-item-test.false in
    c.loop-item.invariant.rest s (subst (λ (xs : List Item). IsPut c.args.large s xs s) (sym none) (put_none c.args.large s))
