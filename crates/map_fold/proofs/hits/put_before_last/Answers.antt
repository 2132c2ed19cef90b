use Rattle.std.proofs.Common.{◌+◌, ◌-◌, ◌∙◌, ap, length, arith}
use Rattle.std.proofs.Math.ListN.{set}
use Rattle.map_fold.proofs.Ranking.{set-shifted}
use Rattle.map_fold.proofs.hits.put_before_last.Goals as goal

pub returns : goal.returns
returns c =
    let hits = c.args.hits.now in
    let at = c.args.at in
    let last = length hits - 1 in
    ap (λ xs. set xs at c.args.hit) c.copy_within.ensures.after
    ∙ set-shifted at (at + 1) last (last - at) hits c.args.hit (omega arith) (omega arith) (omega arith)
