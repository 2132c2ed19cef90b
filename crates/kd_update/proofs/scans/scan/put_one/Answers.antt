use Rattle.std.proofs.Common.{[], ◌∷◌}
use Rattle.std.proofs.lemmas.List.Elements.{All-head}
use Rattle.std.proofs.lemmas.Result.{IfOk-weaker}
use Rattle.kd_update.specs.Scan.{IsPut}
use Rattle.kd_update.proofs.Grown.{IsLive, grown_after, grown_put}
use Rattle.kd_update.proofs.Joins.{join_grown, join_new}
use Rattle.kd_mark.proofs.Several.{balanced_free}
use Rattle.kd_update.proofs.scans.scan.put_one.Goals as goal

pub put_below-requires-clause-new : goal.put_below-requires-clause-new
put_below-requires-clause-new g c = join_new _ [] c.args.item.now c.in_ok-tree.tree c.in_ok-tree.ensures.contents c.requires

pub returns : goal.returns
returns g c =
    let i = c.args.item.now in
    let s = c.args.tree in
    let u = c.in_ok-tree.tree in
    IfOk-weaker c.put_below.result _ (λ t. IsPut c.args.large s (i ∷ []) t)
    (λ t k. join_grown c.args.large s t (i ∷ []) c.requires
    (grown_after s u t (i ∷ []) c.in_ok-tree.ensures.refresh (grown_put i _ u t (All-head IsLive i [] c.requires.live) k.refresh))
    (λ balanced. balanced_free _ _ _ t _ k (c.in_ok-tree.ensures.balance c.args.large balanced))) c.put_below.ensures.updated
