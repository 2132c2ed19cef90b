use Rattle.std.proofs.Common.{◌≡◌, ◌+◌, List, [], ◌∷◌, ◌++◌, drop, ap, sym, ◌∙◌, arith, append_assoc}
use Rattle.point_geom.specs.Place.{Place}
use Rattle.map_items.specs.declared.item.Item.{Item}
use Rattle.map_items.proofs.Numbered.{drop-at}
use Rattle.kd_update.specs.Scan.{live_from}
use Rattle.kd_update.proofs.scans.numbered.live_items.Goals as goal

pub loop-point-preserved : goal.loop-point-preserved
loop-point-preserved c =
    let ps = c.args.points.now in
    let i = c.loop-point.point-index in
    let n = c.loop-point.number in
    let p = c.point-item.result in
    let xs = c.loop-point.items.items in
    let rest = live_from (n + 1) (drop (i + 1) ps) in
    let cut : drop i ps ≡ p ∷ drop (i + 1) ps = drop-at ps _ i p (omega arith) c.loop-point-test.true c.point-item.is in
    record {
      number = omega (arith, c.loop-point.invariant.number);
      rest = ap (λ (ys : List Item). ys ++ rest) c.in_ok-push.ensures.items ∙ append_assoc xs (c.live.result ∷ []) rest
          ∙ ap (λ (j : Item). xs ++ j ∷ rest) c.live.ensures ∙ ap (λ (qs : List Place). xs ++ live_from n qs) (sym cut) ∙ c.loop-point.invariant.rest;
    }
