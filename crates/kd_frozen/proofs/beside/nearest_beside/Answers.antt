use Rattle.std.proofs.Common.{◌≡◌, ◌∙◌, ap, arith, subst, sym, List}
use Rattle.map_items.specs.declared.item.Item.{Item}
use Rattle.map_fold.specs.Answers.{nearest}
use Rattle.map_fold.specs.Nearest.{AreNearest}
use Rattle.map_fold.proofs.Found.{nearest_are}
use Rattle.kd_tree.specs.Contents.{contents}
use Rattle.kd_tree.proofs.Held.{contents_distinct, contents_rising}
use Rattle.kd_frozen.proofs.Outside.{inside_alone}
use Rattle.kd_frozen.proofs.beside.nearest_beside.Goals as goal
use Rattle.kd_frozen.proofs.beside.nearest_beside.Goals.{Then-found-outside_from}

alone : (c : Then-found-outside_from) → c.search.new.found.hits ≡ nearest (contents c.args.tree.now) c.args.k c.args.q.now c.args.within
alone c =
    let t = c.args.tree.now in
    let k = c.args.k in
    let q = c.args.q.now in
    let r = c.args.within in
    let found = c.search.new.found in
    let is = c.new-query.ensures in
    inside_alone (contents t) c.args.c.now k q r found.hits found.bound c.outside_from.result
    (contents_distinct t c.size-size.ensures.sound) (rw (is.k, is.within) at c.in_ok-search.ensures.bound)
    c.if-found-outside_from.true (omega arith) c.outside_from.ensures
    ((rw (is.k, is.point, is.within) at c.in_ok-search.ensures.found) ∙ ap (λ (m : List Item). nearest m k q r) c.requires.frozen)

pub returns-then-found-outside_from-clause-found : goal.returns-then-found-outside_from-clause-found
returns-then-found-outside_from-clause-found c = alone c

pub returns-then-found-outside_from-clause-nearest : goal.returns-then-found-outside_from-clause-nearest
returns-then-found-outside_from-clause-nearest c =
    let t = c.args.tree.now in
    subst (AreNearest (contents t) c.args.k c.args.q.now c.args.within) (sym (alone c))
    (nearest_are 0 (contents t) c.args.k c.args.q.now c.args.within (contents_rising t c.size-size.ensures.sound))
