use Rattle.std.proofs.Common.{◌≡◌, ◌∷◌, ◌<◌, ◌++◌, ap, arith, drop, length, refl, suc, sym, take, ◌∙◌}
use Rattle.std.proofs.lemmas.List.{set_split}
use Rattle.map_items.specs.Contents.{live_at, put}
use Rattle.map_items.proofs.Numbered.{drop-at}
use Rattle.map_items.proofs.Puts.{put_over}
use Rattle.map_fold.proofs.thin.put_item.Goals as goal

pub returns-then-index-number : goal.returns-then-index-number
returns-then-index-number c =
    let xs = c.args.items.now.items in
    let at = c.index_of-at.result in
    let n = c.args.number in
    let p = c.args.point in
    let i = c.index.result.now in
    let rest = drop (suc at) xs in
    let below : at < length xs = omega arith in
    let cut : drop at xs ≡ i ∷ rest = drop-at xs (suc at) at i refl below c.index.ensures in
    let placed : take at xs ++ put (drop at xs) n p ≡ put xs n p = rw c.as_slice.ensures.value at (c.index_of-at.ensures.value p) in
    rw c.live-item.ensures
    (set_split xs at (live_at n p) below
    ∙ ap (λ ys. take at xs ++ ys) (sym (put_over i rest n p c.if-index-number.true))
    ∙ ap (λ ys. take at xs ++ put ys n p) (sym cut)
    ∙ placed)
