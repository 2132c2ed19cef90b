use Rattle.std.proofs.Common.{◌≡◌, ◌∙◌}
use Rattle.std.proofs.lemmas.Result.{IfOk-weaker}
use Rattle.map_fold.specs.Answers.{nearest, nearest_each}
use Rattle.kd_tree.specs.Contents.{contents}
use Rattle.batch_near.proofs.Lists.{map-same}
use Rattle.batch_near.proofs.each.frozen_first.Goals as goal

pub returns : goal.returns
returns g c =
    let qs = c.args.queries.now in
    let k = c.args.search.k in
    let within = c.args.search.within in
    let map = contents c.args.tree.now in
    let frozen = c.in_ok-frozen.frozen in
    IfOk-weaker c.each.result _ (λ lists. lists ≡ nearest_each map k qs within)
    (λ lists found. found
    ∙ map-same (λ q. nearest frozen k q within) (λ q. nearest map k q within) (λ q. c.in_ok-frozen.ensures.asked k q within) qs)
    c.each.ensures
