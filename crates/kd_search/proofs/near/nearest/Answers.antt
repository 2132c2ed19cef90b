use Rattle.std.proofs.Common.{◌≡◌, sym, ap, ◌∙◌, subst, take}
use Rattle.node_labels.specs.Labels.{keep_tag}
use Rattle.map_fold.specs.Answers.{candidates, nearest}
use Rattle.map_fold.specs.Nearest.{AreNearest}
use Rattle.map_fold.proofs.Found.{nearest_are}
use Rattle.kd_tree.specs.Walk.{walk}
use Rattle.kd_tree.specs.Contents.{contents}
use Rattle.kd_tree.proofs.Held.{contents_rising}
use Rattle.kd_search.specs.Nearest.{put_all}
use Rattle.kd_search.proofs.Offered.{put_all-nil, in_order-by_number}
use Rattle.kd_search.proofs.Others.{walk_distinct}
use Rattle.kd_search.proofs.near.nearest.Goals as goal
use Rattle.kd_search.proofs.near.nearest.Goals.{In_ok-add_from}

found : (c : In_ok-add_from) → c.add_from.new.found.hits ≡ nearest (contents c.args.tree.now) c.args.k c.args.q.now c.args.within
found c =
    let q = c.args.q.now in
    let r = c.args.within in
    let items = walk keep_tag c.args.tree.now in
    let is = c.new-query.ensures in
    (rw (is.k, is.point, is.within) at c.in_ok-add_from.ensures.found)
    ∙ ap (λ z. take c.args.k (put_all (candidates items q r) z)) c.start-found.ensures.none
    ∙ ap (take c.args.k) (put_all-nil (candidates items q r) ∙ sym (in_order-by_number q r items (walk_distinct keep_tag c.args.tree.now c.size-size.ensures.sound)))

pub returns-clause-found : goal.returns-clause-found
returns-clause-found c = found c

pub returns-clause-nearest : goal.returns-clause-nearest
returns-clause-nearest c =
    let m = contents c.args.tree.now in
    let law = nearest_are 0 m c.args.k c.args.q.now c.args.within (contents_rising c.args.tree.now c.size-size.ensures.sound) in
    subst (AreNearest m c.args.k c.args.q.now c.args.within) (sym (found c)) law
