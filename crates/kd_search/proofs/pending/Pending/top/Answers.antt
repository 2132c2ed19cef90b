use Rattle.std.proofs.Common.{[], ◌∷◌, subst, sym, ap, ◌∙◌, ◌++◌, arith}
use Rattle.node_labels.specs.declared.tag.Tag.{Tag}
use Rattle.map_items.specs.Contents.{kept, relabelled}
use Rattle.kd_tree.specs.Shape.{Head, nodes}
use Rattle.kd_tree.specs.Walk.{walk}
use Rattle.kd_search.specs.Points.{AreBelow, AreAbove}
use Rattle.kd_search.proofs.Others.{walk_distinct}
use Rattle.kd_search.proofs.Tops.{left_below, right_above}
use Rattle.kd_search.proofs.pending.Pending.top.Goals as goal

pub returns-in-Some-clause-some : goal.returns-in-Some-clause-some
returns-in-Some-clause-some c =
    let top = c.in-Some.top in
    let p = top.item.point in
    let tree = c.args.self.now.tree.now in
    let pending = c.args.self.now.pending in
    let head : Head = record { item = top.item; axis = top.axis; pending = top.pending } in
    let is = c.in-Some.ensures.some in
    let sound = c.size-size.ensures.sound in
    let own = relabelled pending top.item in
    rw c.relabelled.ensures (record {
      items =
          ap (walk pending) is
          ∙ ap (λ a. kept (own ∷ []) ++ (walk a top.left.now ++ walk a top.right.now)) (sym c.then-pending.ensures.value);
      below = subst (λ (a : Tag). AreBelow top.axis p (walk a top.left.now)) (sym c.then-pending.ensures.value) (left_below head pending tree top.left.now top.right.now is sound);
      above = subst (λ (a : Tag). AreAbove top.axis p (walk a top.right.now)) (sym c.then-pending.ensures.value) (right_above head pending tree top.left.now top.right.now is sound);
      distinct = walk_distinct pending tree sound;
      nodes = ap nodes is;
      few = omega (arith, c.size-size.ensures.value, c.size-size.ensures.few);
    })
