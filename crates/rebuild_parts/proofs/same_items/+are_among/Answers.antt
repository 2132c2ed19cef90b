use Rattle.std.proofs.Common.{List, [], ◌∷◌, false, refl, sym, subst}
use Rattle.map_items.specs.declared.item.Item.{Item}
use Rattle.map_items.specs.Contents.{kept}
use Rattle.kd_tree.specs.Walk.{walk}
use Rattle.kd_search.proofs.Tops.{walk_top}
use Rattle.rebuild_parts.specs.DetachedItems.{AreAllFrom}
use Rattle.rebuild_parts.proofs.SameItems.{in_parts, not_both, parts_in}
use Rattle.rebuild_parts.proofs.same_items.+are_among.Goals as goal

pub returns-then-not-is_among : goal.returns-then-not-is_among
returns-then-not-is_among t c =
    let m = c.args.items.now in
    let top = c.in-Some.top in
    let below = c.then-below.result in
    let i = c.relabelled.result in
    let whole = walk_top c.args.tree.now c.args.pending top i below c.in-Some.ensures.some c.relabelled.ensures c.then-below.ensures.value in
    let no = c.if-not-is_among.true in (
      (λ e. absurd (not_both false e refl)),
      λ k.
          let parts = in_parts (kept (i ∷ [])) (walk below top.left.now) (walk below top.right.now) m (subst (λ (xs : List Item). AreAllFrom xs m) whole k) in
          let yes = c.is_among.ensures.1 parts.0 in
          absurd (not_both c.is_among.result yes no),
    )

pub returns-then-not-are_among : goal.returns-then-not-are_among
returns-then-not-are_among t c =
    let m = c.args.items.now in
    let top = c.in-Some.top in
    let below = c.then-below.result in
    let i = c.relabelled.result in
    let whole = walk_top c.args.tree.now c.args.pending top i below c.in-Some.ensures.some c.relabelled.ensures c.then-below.ensures.value in
    let no = c.if-not-are_among.true in (
      (λ e. absurd (not_both false e refl)),
      λ k.
          let parts = in_parts (kept (i ∷ [])) (walk below top.left.now) (walk below top.right.now) m (subst (λ (xs : List Item). AreAllFrom xs m) whole k) in
          let yes = c.are_among.ensures.1 parts.1 in
          absurd (not_both c.are_among.result yes no),
    )

pub returns : goal.returns
returns t c =
    let m = c.args.items.now in
    let top = c.in-Some.top in
    let below = c.then-below.result in
    let i = c.relabelled.result in
    let left = walk below top.left.now in
    let right = walk below top.right.now in
    let whole = walk_top c.args.tree.now c.args.pending top i below c.in-Some.ensures.some c.relabelled.ensures c.then-below.ensures.value in
    let own = c.is_among.ensures.0 c.if-not-is_among.false in
    let near = c.are_among.ensures.0 c.if-not-are_among.false in (
      (λ e. subst (λ (xs : List Item). AreAllFrom xs m) (sym whole) (parts_in (kept (i ∷ [])) left right m own near (c.are_among-2.ensures.0 e))),
      λ k. c.are_among-2.ensures.1 (in_parts (kept (i ∷ [])) left right m (subst (λ (xs : List Item). AreAllFrom xs m) whole k)).2,
    )
