use Rattle.std.proofs.Common.{◌≡◌, ◌-◌, length, take, ap, ◌∙◌, arith}
use Rattle.std.specs.List.{insert}
use Rattle.smallvec.proofs.SmallVecLemmas.{items-with_items}
use Rattle.map_fold.proofs.Ranking.{insert-full, insert-room}
use Rattle.map_fold.proofs.hits.put_at.Goals.{then-len-k+in_ok-push, else-len-k}
use Rattle.map_fold.proofs.hits.put_at.Goals as goal

pub returns-clause-ok : goal.returns-clause-ok
returns-clause-ok c =
    let old = c.args.hits.now.items in
    let kept = take c.args.k (insert old c.args.at c.args.hit.now) in
    let lent = c.if-len-k.hits.items in
    let placed : c.put_before_last.new.hits ≡ insert (take (length lent - 1) lent) c.args.at c.args.hit.now = rw c.as_mut_slice.ensures.value at c.put_before_last.ensures in
    let whole : insert (take (length lent - 1) lent) c.args.at c.args.hit.now ≡ kept = elim c.if-len-k.branch [
      | then-len-k+in_ok-push w ↦ insert-room c.args.k c.args.at old lent c.args.hit.now (omega arith) (ap (λ v. v.items) w.hits-is ∙ w.in_ok-push.ensures.ok)
      | else-len-k w ↦ ap (λ xs. insert (take (length xs - 1) xs) c.args.at c.args.hit.now)
          (ap (λ v. v.items) w.hits-is)
          ∙ insert-full c.args.k c.args.at old c.args.hit.now c.requires.kept (omega arith)
    ] in
    let same : length c.put_before_last.new.hits ≡ length lent = omega (arith, ap length c.as_mut_slice.ensures.value) in
    rw (items-with_items c.if-len-k.hits c.put_before_last.new.hits same) (placed ∙ whole)
